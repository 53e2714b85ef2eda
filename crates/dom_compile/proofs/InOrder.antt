-- Codelets done in their order do what the program does.
use Rattle.std.proofs.Common.{◌≡◌, ℕ, zero, suc, ◌+◌, ◌≤◌, ◌<◌, inl, inr, Bool, true, false, List, [], ◌∷◌, length, map, get_or, Some, count_by, slice_get, slice_index, refl, sym, ap, ◌∙◌, subst, arith}
use Rattle.std.proofs.lemmas.List.Sums.{count_by-le-length}
use Rattle.codelets.specs.declared.answer.Codelets.{Codelets}
use Rattle.codelets.specs.declared.codelet.Codelet.{Codelet}
use Rattle.codelets.specs.declared.codelet.Kind.{Kind}
use Rattle.codelets.specs.Leveled.{AreLeveled}
use Rattle.codelets.specs.Lists.{IsIn}
use Rattle.stage_plan.specs.declared.place.Place.{Place}
use Rattle.stage_plan.specs.Schedule.{IsPlan, atoms_at, stage_at, stages_of, stands_at, width}
use Rattle.atom_match.specs.Atoms.{AtomForm}
use Rattle.compile_law.specs.Compiled.{AreAtomsOf}
use Rattle.compile_law.proofs.Compiled.{does_as_listed}
use Rattle.dom_ast.specs.Resolved.{CheckedForm}
use Rattle.dom_flat.specs.declared.line.Line.{Line}
use Rattle.dom_compile.specs.Compiled.{IsCompiled, IsListed, listed}
use Rattle.dom_compile.specs.InOrder.{IsFront, in_order, one_by_one}
use Rattle.dom_compile.specs.Runs.{ActsAs}
use Rattle.dom_words.specs.State.{IsStateOf}

kinds_same : (k : ℕ) (cs : List Codelet) → map (λ (p : Place). p.kind) (one_by_one k cs) ≡ map (λ (c : Codelet). c.kind) cs
kinds_same k [] = refl
kinds_same k (c ∷ cs) = ap (λ (ks : List Kind). c.kind ∷ ks) (kinds_same (suc k) cs)

-- codelet j after k stages stands at stage k + j + 1
stage_says : (k : ℕ) (cs : List Codelet) (j s : ℕ) → slice_get (stages_of (one_by_one k cs)) j ≡ Some s → (s ≡ suc (k + j)) × (j < length cs)
stage_says k [] j s e = absurd (cc)
stage_says k (c ∷ cs) zero s e = let is : suc k ≡ s = cc in (omega arith, omega arith)
stage_says k (c ∷ cs) (suc j) s e = let more = stage_says (suc k) cs j s e in let is = more.0 in let low = more.1 in (omega arith, omega arith)

stage_of : (k : ℕ) (cs : List Codelet) (j : ℕ) → j < length cs → stage_at (one_by_one k cs) j ≡ suc (k + j)
stage_of k [] j h = absurd (omega arith)
stage_of k (c ∷ cs) zero h = omega arith
stage_of k (c ∷ cs) (suc j) h = let more = stage_of (suc k) cs j (omega arith) in more ∙ omega arith

there : (cs : List Codelet) (j : ℕ) (c : Codelet) → slice_get cs j ≡ Some c → j < length cs
there [] j c e = absurd (cc)
there (d ∷ cs) zero c e = omega arith
there (d ∷ cs) (suc j) c e = let more = there cs j c e in omega arith

in_all : (P : ℕ → Type 0) (us : List ℕ) (u : ℕ) → ((k d : ℕ) → k < length us → P (get_or us k d)) → IsIn u us → P u
in_all P [] u h i = absurd i
in_all P (v ∷ us) u h (inl e) = subst P (sym e) (h 0 0 (omega arith))
in_all P (v ∷ us) u h (inr j) = in_all P us u (λ k d l. h (suc k) d (omega arith)) j

same_length : (k : ℕ) (cs : List Codelet) → length (one_by_one k cs) ≡ length cs
same_length k [] = refl
same_length k (c ∷ cs) = ap suc (same_length (suc k) cs)

one_each : (cs : List Codelet) → AreLeveled cs → IsPlan (length cs) (length cs) (length cs) cs (one_by_one 0 cs)
one_each cs leveled = record {
  kinds = kinds_same 0 cs;
  bounds = λ k s e. (let says = stage_says 0 cs k s e in let is = says.0 in let low = says.1 in (omega arith, omega arith));
  later = λ k u c g i. (
      let low : u < k = in_all (λ v. v < k) c.uses u (λ j d h. (leveled k c g).0 j d h) i in
      let within = there cs k c g in
      let one = stage_of 0 cs u (omega arith) in
      let other = stage_of 0 cs k within in
      omega arith);
  widths = λ kind stage. (let few = count_by-le-length (stands_at kind stage) (one_by_one 0 cs) in let same = same_length 0 cs in width_is (length cs) (atoms_at (one_by_one 0 cs) kind stage) kind (omega arith));
}
  where
    width_is : (n count : ℕ) (kind : Kind) → count ≤ n → count ≤ width n n kind
    width_is n count Kind.Stateless h = h
    width_is n count Kind.Stateful h = h

in_order_acts : (program : CheckedForm) (c : Codelets) (atoms : List AtomForm) → IsListed program c.flat → AreAtomsOf c atoms → ActsAs program (in_order c atoms)
in_order_acts program c atoms listed are hash packet state small words declared =
    let long : length packet ≡ length c.flat.fields = words ∙ sym (ap (length {A = List ℕ}) listed.fields) in
    does_as_listed c (length c.list) (length c.list) (length c.list) atoms (one_by_one 0 c.list) are (one_each c.list c.leveled) hash state packet long
    ∙ listed.means hash packet state small words declared

pub is_front : (text : List ℕ) (c : Codelets) (atoms : List AtomForm) → IsCompiled text c.flat → AreAtomsOf c atoms → IsFront text c atoms
is_front text c atoms is are = record {
  program = is.program;
  program_is = is.program_is;
  few = subst (λ (ls : List Line). length ls ≤ 512) is.listed_is.lines c.flat.few_lines;
  means = in_order_acts is.program c atoms is.listed_is are;
}
