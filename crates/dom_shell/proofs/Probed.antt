-- Taps that are attached to the machine of a run.
use Rattle.std.proofs.Common.{◌≡◌, ℕ, List, length, map, sym, ap, ◌∙◌, subst}
use Rattle.std.proofs.lemmas.List.{length-map}
use Rattle.trace_text.specs.Lines.{Legend}
use Rattle.dom_words.specs.State.{Hash}
use Rattle.banzai_machine.specs.State.{MachineForm}
use Rattle.probe_taps.specs.Attached.{AttachedForm, attached_form, attached_forms}
use Rattle.probe_taps.specs.Taps.{TapForm, tap_forms}
use Rattle.probe_taps.specs.declared.attached.Attached.{Attached}
use Rattle.dom_report.specs.ProbeReport.{attached_at}
use Rattle.dom_finding.specs.Finding.{Packets}
use Rattle.dom_report.specs.ProbeReport.{IsReady}
use Rattle.dom_shell.specs.RunSetUp.{IsRunSetUp}

-- there are as many as were handed in
pub as_many : {B : Type 0} {depth : ℕ} (form : B → TapForm) (stage : ℕ) (xs : List (Attached B depth)) (ys : List B) → attached_forms form xs ≡ attached_at stage (tap_forms form ys) → length xs ≡ length ys
as_many form stage xs ys is =
    let before : TapForm → AttachedForm = λ tap. record { stage = stage; tap = tap } in
    sym (length-map xs (attached_form form)) ∙ ap length is ∙ length-map (map form ys) before ∙ length-map ys form

-- what a run needs, of a machine that is the same
pub same_set_up : (now machine : MachineForm) (lines : Legend) (packets : Packets) (entering leaving : List ℕ) → now ≡ machine → IsRunSetUp machine lines packets entering leaving
    → IsRunSetUp now lines packets entering leaving
same_set_up now machine lines packets entering leaving same is = subst (λ (m : MachineForm). IsRunSetUp m lines packets entering leaving) (sym same) is

-- and so the run is ready
pub ready : (hash : Hash) (machine : MachineForm) (lines : Legend) (packets : Packets) (entering leaving : List ℕ) → IsRunSetUp machine lines packets entering leaving → IsReady hash machine lines packets entering leaving
ready hash machine lines packets entering leaving is = record {
  start = is.start.stands hash;
  fields = is.fields;
  arrays = is.arrays;
  words = is.words;
  each = is.each;
  cycles = is.cycles;
  entering_is = is.entering_is;
  leaving_is = is.leaving_is;
}
