-- How `run` ends behind the read of its program.
use Rattle.std.proofs.Common.{◌≡◌, ℕ, ◌+◌, ◌≤◌, inl, inr, All, Bool, true, false, List, [], ◌∷◌, length, refl, sym, ap, ◌∙◌, subst, Option, Ok, Err}
use Rattle.trace_text.specs.Lines.{Legend}
use Rattle.trace_text.specs.Trace as told
use Rattle.trace_text.specs.Trace.{IsTraceOf, cycles_of, most_cycles}
use Rattle.atom_traits.specs.Form.{TreesForm}
use Rattle.banzai_config.specs.Checked.{shape_with}
use Rattle.banzai_config.specs.Legal.{LegalFor, Shape}
use Rattle.banzai_config.specs.Parts.{PartsForm}
use Rattle.banzai_config.specs.Targets.{shape_of}
use Rattle.banzai_config.specs.declared.target.Target.{Target}
use Rattle.banzai_machine.specs.State.{IsNew, MachineForm}
use Rattle.banzai_machine.proofs.Multiplied.{legal_with}
use Rattle.dom_compile.specs.Answer.{IsCompileAnswer}
use Rattle.dom_finding.specs.Command.{Command, FileNames, run}
use Rattle.dom_finding.specs.Finding.{IsFoundAfter, IsNext, Job, MayHold, Packets, ask, clocked, ends, found, reads, trace_file}
use Rattle.dom_finding.specs.Refusals.{refused_compile, refused_trace}
use Rattle.dom_finding.specs.Stops.{AreKept, StopAfter, TextStop, TraceStop}
use Rattle.dom_finding.specs.declared.reading.Stop.{Stop}
use Rattle.dom_finding.proofs.Stopped.{file_stops, read_on, text_stops}
use Rattle.dom_report.specs.RunReport.{array_names}
use Rattle.dom_shell.specs.RunSetUp.{IsRunSetUp, IsTraced}

-- what is legal for a target is legal with multipliers
pub legal_multiplied : (fits : TreesForm → Bool) (bits depth stateless stateful : ℕ) (multiplies : Bool) (p : PartsForm)
    → LegalFor (shape_with fits bits depth stateless stateful multiplies) p → LegalFor (shape_with fits bits depth stateless stateful true) p
legal_multiplied fits bits depth stateless stateful false p legal = legal_with fits bits depth stateless stateful p legal
legal_multiplied fits bits depth stateless stateful true p legal = legal

-- A trace behind some texts.

module _ (command : Command) (texts : List (List ℕ)) (files : List ℕ → Option (List ℕ)) (name : List ℕ) (wants : IsNext command texts (ask (trace_file name))) where
  -- it stops the command
  pub trace_stops : (fields : List (List ℕ)) (depth : ℕ) (before now : List ℕ → ℕ) → ((trace : List ℕ) (r : told.Refusal) → IsTraceOf trace fields depth (Err r) → IsNext command (trace ∷ texts) (found (Err (refused_trace r))))
      → (stop : Stop) → TraceStop files before now (trace_file name) fields depth stop → StopAfter command texts files before now stop
  trace_stops fields depth before now refuses stop (inl is) = file_stops command texts files before now (trace_file name) stop wants is
  trace_stops fields depth before now refuses stop (inr is) =
      read_on command texts files before now (trace_file name) is.0 stop wants is.1.0 is.1.1
      (text_stops command (is.0 ∷ texts) files before now (IsTraceOf is.0 fields depth) refused_trace stop is.2 (refuses is.0) is.3)

  -- it is a job
  pub trace_found : (parts : PartsForm) (job : Job) (packets : Packets)
      → ((trace : List ℕ) → IsTraceOf trace parts.fields (length parts.stages) (Ok packets) → IsNext command (trace ∷ texts) (found (Ok job))) → IsTraced files name parts packets
      → IsFoundAfter (MayHold files) command texts (Ok job)
  trace_found parts job packets gives is = reads (trace_file name) is.0 wants is.1.0 is.1.1 (ends (gives is.0 is.2))

module _ (target : Target) (names : FileNames) (program : List ℕ) (files : List ℕ → Option (List ℕ)) where
  -- the program has no configuration
  pub program_stops : (before now : List ℕ → ℕ) (stop : Stop) → AreKept before now → TextStop (IsCompileAnswer (shape_of target) program) refused_compile stop
      → StopAfter (run target names) (program ∷ []) files before now stop
  program_stops before now stop kept is =
      text_stops (run target names) (program ∷ []) files before now (IsCompileAnswer (shape_of target) program) refused_compile stop kept (λ fault has. (Err fault, has, refl)) is

  module _ (parts : PartsForm) (answer : IsCompileAnswer (shape_of target) program (Ok parts)) where
    -- its trace stops it
    pub run_stops : (before now : List ℕ → ℕ) (stop : Stop) → TraceStop files before now (trace_file names.trace) parts.fields (length parts.stages) stop → StopAfter (run target names) (program ∷ []) files before now stop
    run_stops before now stop is =
        trace_stops (run target names) (program ∷ []) files names.trace (Ok parts, answer, refl) parts.fields (length parts.stages) before now (λ trace r has. (parts, answer, (Err r, has, refl))) stop is

    -- a configuration and packets are found
    pub run_found : (packets : Packets) → IsTraced files names.trace parts packets → IsFoundAfter (MayHold files) (run target names) (program ∷ []) (Ok (clocked parts packets))
    run_found packets is =
        trace_found (run target names) (program ∷ []) files names.trace (Ok parts, answer, refl) parts (clocked parts packets) packets (λ trace says. (parts, answer, (Ok packets, says, refl))) is

-- what a run needs, for the configuration that its machine has
pub set_up : (parts : PartsForm) (machine : MachineForm) (lines : Legend) (packets : Packets) (entering leaving : List ℕ) → IsNew parts machine → lines.fields ≡ parts.fields → lines.arrays ≡ array_names parts
    → length parts.fields ≤ lines.words → parts.containers ≤ lines.words → All (λ p. length p.1 ≡ length parts.fields) packets → cycles_of packets + length parts.stages ≤ most_cycles
    → length entering ≡ length parts.fields → length leaving ≡ length parts.fields → IsRunSetUp machine lines packets entering leaving
set_up parts machine lines packets entering leaving new fields arrays words wide each cycles enters leaves =
    let e : parts ≡ machine.config = sym new.config in
    record {
      start = subst (λ (p : PartsForm). IsNew p machine) e new;
      fields = fields ∙ ap (λ (p : PartsForm). p.fields) e;
      arrays = arrays ∙ ap array_names e;
      words = subst (λ (p : PartsForm). length p.fields ≤ lines.words) e words;
      wide = subst (λ (p : PartsForm). p.containers ≤ lines.words) e wide;
      each = subst (λ (p : PartsForm). All (λ q. length q.1 ≡ length p.fields) packets) e each;
      cycles = subst (λ (p : PartsForm). cycles_of packets + length p.stages ≤ most_cycles) e cycles;
      entering_is = enters ∙ ap (λ (p : PartsForm). length p.fields) e;
      leaving_is = leaves ∙ ap (λ (p : PartsForm). length p.fields) e;
    }

-- the same job, by the configuration of the machine
pub found_for : (target : Target) (names : FileNames) (program : List ℕ) (files : List ℕ → Option (List ℕ)) (parts own : PartsForm) (packets : Packets) → own ≡ parts
    → IsFoundAfter (MayHold files) (run target names) (program ∷ []) (Ok (clocked parts packets)) → IsFoundAfter (MayHold files) (run target names) (program ∷ []) (Ok (clocked own packets))
found_for target names program files parts own packets same is =
    subst (λ (p : PartsForm). IsFoundAfter (MayHold files) (run target names) (program ∷ []) (Ok (clocked p packets))) (sym same) is

-- a target's shape, by its numbers
pub answer_for : (target : Target) (s : Shape) (text : List ℕ) (parts : PartsForm) → shape_of target ≡ s → IsCompileAnswer s text (Ok parts) → IsCompileAnswer (shape_of target) text (Ok parts)
answer_for target s text parts same answer = subst (λ (z : Shape). IsCompileAnswer z text (Ok parts)) (sym same) answer
