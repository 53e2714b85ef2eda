-- A text says one thing.
use Rattle.std.proofs.Common.{◌≡◌, ℕ, List, sym, ap, ◌∙◌, Result}
use Rattle.csv.specs.Reading.{default_config, strip_bom}
use Rattle.csv.specs.declared.parser.State.TheVariants as state
use Rattle.trace_text.specs.Trace.{IsTraceOf, Refusal, trace_of}
use Rattle.trace_text.proofs.Records.{one_list}

pub one_trace : (text : List ℕ) (fields : List (List ℕ)) (depth : ℕ) (a b : Result (List (ℕ × List ℕ)) Refusal)
    → IsTraceOf text fields depth a → IsTraceOf text fields depth b → a ≡ b
one_trace text fields depth a b x y =
    sym x.2 ∙ ap (λ r. trace_of r fields depth) (one_list default_config state.StartRecord (strip_bom text) x.0 y.0 x.1 y.1) ∙ y.2
