-- A file that holds what `compile` put, and the commands over it.
use Rattle.std.specs.Prelude.{◌≡◌, ℕ, true, Option, Some, List, [], ◌∷◌, codes}
use Rattle.dom_words.specs.State.{Hash}
use Rattle.banzai_config.specs.declared.target.Target.{Target}
use Rattle.banzai_config.specs.Targets.{name_of}
use Rattle.probe_taps.specs.Taps.{TapForm}
use Rattle.dom_finding.specs.Command.{is_file}
use Rattle.dom_shell.specs.Call.{IsResult}

-- the words of the commands
abbrev pub compile_words : Target → List ℕ → List (List ℕ)
compile_words target program = codes "compile" ∷ name_of target ∷ program ∷ []

abbrev pub run_words : Target → List ℕ → List ℕ → List (List ℕ)
run_words target program trace = codes "run" ∷ name_of target ∷ program ∷ trace ∷ []

abbrev pub exec_words : List ℕ → List ℕ → List (List ℕ)
exec_words config trace = codes "exec" ∷ config ∷ trace ∷ []

-- the file `config` holds the text that `compile` puts, with status 0, for the program in a file on a target, where these taps
-- are handed in
pub record HoldsCompiled (hash : Hash) (files : List ℕ → Option (List ℕ)) (target : Target) (program config : List ℕ) : Type 0 where
  pub taps : List TapForm
  pub text : List ℕ
  pub put : IsResult hash taps (compile_words target program) files 0 text
  pub named : is_file config ≡ true
  pub held : files config ≡ Some text
