-- Tokens spell a program within the limit, or have a first fault.
use Rattle.std.proofs.Common.{◌≡◌, ℕ, ◌+◌, inl, inr, Bool, true, false, List, [], ◌∷◌, map, Option, Some, None, if◌then◌else◌, nat_le, refl, sym, ap}
use Rattle.std.proofs.lemmas.Option.{none-some}
use Rattle.dom_lexer.specs.declared.token.Token.{Token}
use Rattle.dom_parser.specs.declared.faults.Fault.TheVariants as place
use Rattle.dom_parser.specs.declared.faults.ParseFault.TheVariants as answer
use Rattle.dom_parser.specs.declared.kinds.Kind.{Kind}
use Rattle.dom_parser.specs.declared.kinds.Kind.TheVariants as kind
use Rattle.dom_parser.specs.Answer.{HasAnswer}
use Rattle.dom_parser.specs.Faults.{located_at, unexpected_at}
use Rattle.dom_parser.specs.inner.Following.{Problem, Trace, bad, count, deep, fine, limit, problem, stuck, trace, whole}
use Rattle.dom_parser.specs.Grammar.{program_tree}
use Rattle.dom_parser.specs.Tokens.{mark, offset_at, stands}
use Rattle.dom_parser.proofs.Derived.{spelled}
use Rattle.dom_parser.proofs.TooMany.{first_fault}
use Rattle.dom_parser.proofs.Viable.{marks_clean}
use Rattle.dom_parser.proofs.Whole.{keeps}
use Rattle.dom_parser.proofs.Traces.{counted}

-- where no problem comes up, each token may stand at its place
no_problem : (p : ℕ) (t : Trace) → problem p t ≡ None → (ns : List ℕ) × (t ≡ counted ns fine)
no_problem p fine e = ([], refl)
no_problem p stuck e = absurd (none-some (bad p) (sym e))
no_problem p (count n t) e = on (no_problem (p + 1) t) (nat_le n limit) e
  where
    on : (problem (p + 1) t ≡ None → (ns : List ℕ) × (t ≡ counted ns fine)) → (b : Bool) → (if b then problem (p + 1) t else Some (deep p)) ≡ None → (ns : List ℕ) × (count n t ≡ counted ns fine)
    on behind true e = let more = behind e in (n ∷ more.0, ap (count n) more.1)
    on behind false e = absurd (none-some (deep p) (sym e))

-- a fault that has a place is none of memory
not_memory : (k : Kind) (offset end : ℕ) → unexpected_at k offset end ≡ answer.Memory → ⊥
not_memory kind.Name offset end e = cc
not_memory (kind.Number n) offset end e = cc
not_memory (kind.Fixed f) offset end e = cc
not_memory kind.Inv offset end e = cc
not_memory kind.Not offset end e = cc
not_memory (kind.Operator o) offset end e = cc
not_memory kind.Forbidden offset end e = cc
not_memory kind.End offset end e = cc

too_nested : (offset : ℕ) → answer.TooNested offset ≡ answer.Memory → ⊥
too_nested offset e = cc

by_problem : (l : List Token) (end : ℕ) (o : Option Problem) → problem 0 (trace whole (map mark l)) ≡ o → HasAnswer l end
by_problem l end None e =
    let run = no_problem 0 (trace whole (map mark l)) e in
    let way = spelled (map mark l) run.0 (marks_clean l) run.1 in
    inl (program_tree way.0, keeps (program_tree way.0) l (way.0, way.1, way.2, refl) e)
by_problem l end (Some (bad p)) e =
    let fault = located_at l end (place.Unexpected p) in
    inr (fault, first_fault l l end (place.Unexpected p) fault refl refl record { there = e }, not_memory (stands l p) (offset_at l p) end)
by_problem l end (Some (deep p)) e =
    let fault = located_at l end (place.TooNested p) in
    inr (fault, first_fault l l end (place.TooNested p) fault refl refl record { there = e }, too_nested (offset_at l p))

pub some_answer : (l : List Token) (end : ℕ) → HasAnswer l end
some_answer l end = by_problem l end (problem 0 (trace whole (map mark l))) refl
