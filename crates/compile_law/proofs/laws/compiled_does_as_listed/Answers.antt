use Rattle.compile_law.proofs.Compiled.{does_as_listed}
use Rattle.compile_law.proofs.laws.compiled_does_as_listed.Goals as goal

pub returns : goal.returns
returns c = λ depth stateless stateful atoms places are plan hash state packet long. does_as_listed c.args.codelets.now depth stateless stateful atoms places are plan hash state packet long
