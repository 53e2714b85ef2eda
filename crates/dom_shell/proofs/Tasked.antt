-- How a task on the program in a file ends.
use Rattle.std.proofs.Common.{◌≡◌, ℕ, ◌≤◌, List, [], ◌∷◌, length, refl, sym, subst, Option}
use Rattle.dom_words.specs.State.{Hash}
use Rattle.banzai_config.specs.declared.target.Target.{Target}
use Rattle.dom_compile.specs.Programs.{most_program}
use Rattle.probe_taps.specs.Taps.{TapForm}
use Rattle.dom_finding.specs.Finding.{IsNext, ask, program_file}
use Rattle.dom_finding.specs.Stops.{AreKept, FileStop, IsText}
use Rattle.dom_finding.specs.declared.reading.Stop.{Stop}
use Rattle.dom_finding.proofs.Stopped.{file_stops}
use Rattle.dom_shell.specs.Ends.{AreStopped, Call, IsEndAfter, Sent, call_of}
use Rattle.dom_shell.specs.Tasks.{IsOnProgram, IsReadFor, command_for, texts_for}
use Rattle.dom_shell.specs.declared.commands.task.Task.{Task}
use Rattle.dom_shell.specs.declared.commands.task.Task.TheVariants as task
use Rattle.dom_shell.proofs.Ended.{end_read_on, stop_end}

-- the end of a task that is known
pub for_task : (target : Target) (name text : List ℕ) (t u : Task) (call : Call) → t ≡ u → IsEndAfter (command_for target name u) (texts_for u text) call → IsEndAfter (command_for target name t) (texts_for t text) call
for_task target name text t u call same end = subst (λ (z : Task). IsEndAfter (command_for target name z) (texts_for z text) call) (sym same) end

-- and what is known of its text
pub read_task : (target : Target) (text : List ℕ) (t u : Task) → t ≡ u → IsReadFor target t text → IsReadFor target u text
read_task target text t u same is = subst (λ (z : Task). IsReadFor target z text) same is

-- a program within its limit
pub read_program : (target : Target) (text : List ℕ) (t : Task) → IsOnProgram t → length text ≤ most_program → IsReadFor target t text
read_program target text task.Compile on few = few
read_program target text (task.Run trace) on few = few
read_program target text task.Codelets on few = few
read_program target text (task.Planned plan) on few = few
read_program target text (task.SelfRun seed count) on few = absurd on
read_program target text (task.Upgrade parts) on few = absurd on
read_program target text (task.Elastic parts trace events) on few = absurd on
read_program target text (task.Config what parts trace) on few = absurd on

-- the program is wanted first
program_first : (target : Target) (name : List ℕ) (t : Task) → IsOnProgram t → IsNext (command_for target name t) [] (ask (program_file name))
program_first target name task.Compile on = refl
program_first target name (task.Run trace) on = refl
program_first target name task.Codelets on = refl
program_first target name (task.Planned plan) on = refl
program_first target name (task.SelfRun seed count) on = absurd on
program_first target name (task.Upgrade parts) on = absurd on
program_first target name (task.Elastic parts trace events) on = absurd on
program_first target name (task.Config what parts trace) on = absurd on

-- and is the one text that is read for it
program_alone : (t : Task) (text : List ℕ) → IsOnProgram t → texts_for t text ≡ text ∷ []
program_alone task.Compile text on = refl
program_alone (task.Run trace) text on = refl
program_alone task.Codelets text on = refl
program_alone (task.Planned plan) text on = refl
program_alone (task.SelfRun seed count) text on = absurd on
program_alone (task.Upgrade parts) text on = absurd on
program_alone (task.Elastic parts trace events) text on = absurd on
program_alone (task.Config what parts trace) text on = absurd on

module _ (target : Target) (name : List ℕ) (t : Task) (on : IsOnProgram t) (hash : Hash) (taps : List TapForm) (files : List ℕ → Option (List ℕ)) where
  -- what is behind the read of the program
  pub behind_read : (text : List ℕ) (mid : List ℕ → Option (List ℕ)) (before then now : List ℕ → ℕ) (sent : Sent) → IsText files (program_file name) text → ((n : List ℕ) → mid n ≡ files n) → AreKept before then
      → IsEndAfter (command_for target name t) (texts_for t text) (call_of hash taps mid then now sent) → IsEndAfter (command_for target name t) [] (call_of hash taps files before now sent)
  behind_read text mid before then now sent is same kept end =
      end_read_on (command_for target name t) [] (program_file name) text hash taps files mid before then now sent (program_first target name t on) is.0 is.1 same kept
      (subst (λ (texts : List (List ℕ)). IsEndAfter (command_for target name t) texts (call_of hash taps mid then now sent)) (program_alone t text on) end)

  -- the program could not be read
  pub unread_end : (before now : List ℕ → ℕ) (sent : Sent) (stop : Stop) → FileStop files before now (program_file name) stop → AreStopped stop sent
      → IsEndAfter (command_for target name t) [] (call_of hash taps files before now sent)
  unread_end before now sent stop is stopped =
      stop_end (command_for target name t) [] (call_of hash taps files before now sent) stop
      (file_stops (command_for target name t) [] files before now (program_file name) stop (program_first target name t on) is) stopped
