-- The texts of a command's files, and what stops it between them.
use Rattle.std.proofs.Common.{◌≡◌, ℕ, List, [], ◌∷◌, refl, subst, Option, IfSome, IfOk, IfErr, Result, Ok, Err}
use Rattle.trace_text.specs.Trace.{IsTraceOf}
use Rattle.dom_ast.specs.Resolved.{CheckedForm}
use Rattle.dom_compile.specs.Verdict.{IsProgram}
use Rattle.dom_finding.specs.Command.{FileNames, serial}
use Rattle.dom_finding.specs.Finding.{Ask, IsFoundAfter, MayHold, Packets, ends, in_turn, program_file, reads, trace_file}
use Rattle.dom_finding.specs.Refusals.{refused_program, refused_trace}
use Rattle.dom_finding.specs.Stops.{AreKept, FileStop, IsText, StopAfter, TextStop}
use Rattle.dom_finding.specs.declared.reading.Stop.{Stop}
use Rattle.dom_finding.proofs.Stopped.{file_stops, moved, read_on, text_stops}

-- the ask of the code is the definition's
pub text_of : (files : List ℕ → Option (List ℕ)) (a b : Ask) (text : List ℕ) → a ≡ b → IsText files a text → IsText files b text
text_of files a b text same is = subst (λ (x : Ask). IsText files x text) same is

pub stop_of : (files : List ℕ → Option (List ℕ)) (before now : List ℕ → ℕ) (a b : Ask) (stop : Stop) → a ≡ b → FileStop files before now a stop → FileStop files before now b stop
stop_of files before now a b stop same is = subst (λ (x : Ask). FileStop files before now x stop) same is

-- and a read behind another, which moved nothing
pub text_later : (files mid : List ℕ → Option (List ℕ)) (a b : Ask) (text : List ℕ) → a ≡ b → ((name : List ℕ) → mid name ≡ files name) → IsText mid a text → IsText files b text
text_later files mid a b text same kept is =
    let there = text_of mid a b text same is in (subst (λ (o : Option (List ℕ)). IfSome o (λ told. told ≡ text)) (kept b.name) there.0, there.1)

pub stop_later : (files mid : List ℕ → Option (List ℕ)) (before then now : List ℕ → ℕ) (a b : Ask) (stop : Stop) → a ≡ b → ((name : List ℕ) → mid name ≡ files name) → AreKept before then
    → FileStop mid then now a stop → FileStop files before now b stop
stop_later files mid before then now a b stop same held kept is = moved files mid before then now b stop held kept (stop_of mid then now a b stop same is)

-- The program and the trace of `serial`.

module _ (names : FileNames) (files : List ℕ → Option (List ℕ)) (before now : List ℕ → ℕ) (stop : Stop) where
  pub serial_program_file : FileStop files before now (program_file names.program) stop → StopAfter (serial names) [] files before now stop
  serial_program_file is = file_stops (serial names) [] files before now (program_file names.program) stop refl is

  module _ (program : List ℕ) (is_text : IsText files (program_file names.program) program) where
    pub serial_program : AreKept before now → TextStop (IsProgram program) refused_program stop → StopAfter (serial names) [] files before now stop
    serial_program kept is =
        read_on (serial names) [] files before now (program_file names.program) program stop refl is_text.0 is_text.1
        (text_stops (serial names) (program ∷ []) files before now (IsProgram program) refused_program stop kept (λ fault has. (Err fault, has, refl)) is)

    module _ (c : CheckedForm) (well : IsProgram program (Ok c)) where
      pub serial_trace_file : FileStop files before now (trace_file names.trace) stop → StopAfter (serial names) [] files before now stop
      serial_trace_file is =
          read_on (serial names) [] files before now (program_file names.program) program stop refl is_text.0 is_text.1
          (file_stops (serial names) (program ∷ []) files before now (trace_file names.trace) stop (Ok c, well, refl) is)

      pub serial_trace : (trace : List ℕ) → IsText files (trace_file names.trace) trace → AreKept before now → TextStop (IsTraceOf trace c.fields 0) refused_trace stop
          → StopAfter (serial names) [] files before now stop
      serial_trace trace is_trace kept is =
          read_on (serial names) [] files before now (program_file names.program) program stop refl is_text.0 is_text.1
          (read_on (serial names) (program ∷ []) files before now (trace_file names.trace) trace stop (Ok c, well, refl) is_trace.0 is_trace.1
          (text_stops (serial names) (trace ∷ program ∷ []) files before now (IsTraceOf trace c.fields 0) refused_trace stop kept (λ fault has. (c, well, (Err fault, has, refl))) is))

pub serial_found : (names : FileNames) (files : List ℕ → Option (List ℕ)) (program trace : List ℕ) (c : CheckedForm) (packets : Packets)
    → IsText files (program_file names.program) program → IsProgram program (Ok c) → IsText files (trace_file names.trace) trace → IsTraceOf trace c.fields 0 (Ok packets)
    → IsFoundAfter (MayHold files) (serial names) [] (Ok (in_turn c packets))
serial_found names files program trace c packets is_text well is_trace says =
    reads (program_file names.program) program refl is_text.0 is_text.1
    (reads (trace_file names.trace) trace (Ok c, well, refl) is_trace.0 is_trace.1 (ends (c, well, (Ok packets, says, refl))))

-- The same of results.

pub ok_of_both : {T E : Type 0} (P Q R : T → Type 0) (result : Result T E) → ((x : T) → P x → Q x → R x) → IfOk result P → IfOk result Q → IfOk result R
ok_of_both P Q R (Ok x) f p q = f x p q
ok_of_both P Q R (Err e) f p q = tt

pub ok_of_three : {T E : Type 0} (P Q R U : T → Type 0) (result : Result T E) → ((x : T) → P x → Q x → R x → U x) → IfOk result P → IfOk result Q → IfOk result R → IfOk result U
ok_of_three P Q R U (Ok x) f p q r = f x p q r
ok_of_three P Q R U (Err e) f p q r = tt

pub ok_of : {T E : Type 0} (P Q : T → Type 0) (result : Result T E) → ((x : T) → P x → Q x) → IfOk result P → IfOk result Q
ok_of P Q (Ok x) f p = f x p
ok_of P Q (Err e) f p = tt

pub err_of : {T E : Type 0} (P Q : E → Type 0) (result : Result T E) → ((e : E) → P e → Q e) → IfErr result P → IfErr result Q
err_of P Q (Ok x) f p = tt
err_of P Q (Err e) f p = f e p
