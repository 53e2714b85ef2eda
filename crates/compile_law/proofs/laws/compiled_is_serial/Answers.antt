use Rattle.compile_law.proofs.Turns.{runs_as}
use Rattle.compile_law.proofs.laws.compiled_is_serial.Goals as goal

pub returns : goal.returns
returns c = λ depth stateless stateful atoms places are plan. runs_as c.args.codelets.now depth stateless stateful atoms places are plan
