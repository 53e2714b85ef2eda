-- What is taken hangs on the stages of the candidates alone.
use Rattle.std.proofs.Common.{◌≡◌, ℕ, zero, suc, ◌+◌, ◌<◌, ◌≤◌, inl, inr, Bool, true, false, nat_eq, nat_le, nat_lt, List, [], ◌∷◌, ◌++◌, length, map, flat_map, filter, fold, refl, ap, ◌∙◌, subst, arith, if◌then◌else◌}
use Rattle.std.specs.Prelude.{slice_index}
use Rattle.std.proofs.lemmas.Bool.{cases_lt}
use Rattle.std.specs.List.{AllByRecursion as Every, range_with_len}
use Rattle.atom_traits.specs.declared.tree.Port.{Port}
use Rattle.banzai_config.specs.declared.parts.Parts.{Parts}
use Rattle.banzai_config.specs.declared.parts.StageParts.{StageParts}
use Rattle.banzai_config.specs.Legal.{has}
use Rattle.banzai_config.specs.Named.{port_reads}
use Rattle.banzai_config.specs.Parts.{PartsForm, parts_form, stage_form}
use Rattle.container_plan.specs.Spans.{Taken, least_free, held, take_next, taken, order}
use Rattle.container_plan.specs.State.{taken_before}
use Rattle.container_plan.specs.Shared.{all_taken, last, last_from, made, made_from, outputs_read}
use Rattle.container_plan.proofs.Every.{Every-append}
use Rattle.container_plan.proofs.Order.{at, from}
use Rattle.container_plan.proofs.Marking.{length-forms}

module _ (m l m' l' : ℕ → ℕ) where
  abbrev AreSame : List ℕ → Type 0
  AreSame vs = Every (λ v. (m v ≡ m' v) × (l v ≡ l' v)) vs

  at_same : (k : ℕ) (vs : List ℕ) → AreSame vs → at m k vs ≡ at m' k vs
  at_same k [] p = refl
  at_same k (v ∷ vs) p =
      ap (λ (z : ℕ). if nat_eq z k then v ∷ at m k vs else at m k vs) p.0.0 ∙ ap (λ (zs : List ℕ). if nat_eq (m' v) k then v ∷ zs else zs) (at_same k vs p.1)

  from_same : (vs : List ℕ) (k n : ℕ) → AreSame vs → from m vs k n ≡ from m' vs k n
  from_same vs k zero p = refl
  from_same vs k (suc n) p = ap (λ z. z ++ from m vs (k + 1) n) (at_same k vs p) ∙ ap (λ z. at m' k vs ++ z) (from_same vs (k + 1) n p)

  at_kept : (k : ℕ) (vs : List ℕ) → AreSame vs → AreSame (at m k vs)
  at_kept k [] p = tt
  at_kept k (v ∷ vs) p = by_bool (nat_eq (m v) k) (at_kept k vs p.1)
    where
      by_bool : (b : Bool) → AreSame (at m k vs) → AreSame (if b then v ∷ at m k vs else at m k vs)
      by_bool true q = (p.0, q)
      by_bool false q = q

  from_kept : (vs : List ℕ) (k n : ℕ) → AreSame vs → AreSame (from m vs k n)
  from_kept vs k zero p = tt
  from_kept vs k (suc n) p = Every-append (λ v. (m v ≡ m' v) × (l v ≡ l' v)) (at m k vs) (from m vs (k + 1) n) (at_kept k vs p) (from_kept vs (k + 1) n p)

  held_same : (k : ℕ) (done : List Taken) → Every (λ (t : Taken). l t.value ≡ l' t.value) done → held m l k done ≡ held m' l' k done
  held_same k [] p = refl
  held_same k (t ∷ ts) p =
      let rest : held m l k ts ≡ held m' l' k ts = held_same k ts p.1 in
      by_bool (nat_le k (l' t.value)) (ap (λ (z : ℕ). nat_le k z) p.0) rest
    where
      by_bool : (b : Bool) → nat_le k (l t.value) ≡ b → held m l k ts ≡ held m' l' k ts
          → held m l k (t ∷ ts) ≡ map (λ (u : Taken). u.container) (if b then t ∷ filter (λ (u : Taken). nat_le k (l' u.value)) ts else filter (λ (u : Taken). nat_le k (l' u.value)) ts)
      by_bool true e rest = front true e ∙ ap (λ z. t.container ∷ z) rest
        where
          front : (b : Bool) → nat_le k (l t.value) ≡ b → held m l k (t ∷ ts) ≡ map (λ (u : Taken). u.container) (if b then t ∷ filter (λ (u : Taken). nat_le k (l u.value)) ts else filter (λ (u : Taken). nat_le k (l u.value)) ts)
          front b e = ap (λ (c : Bool). map (λ (u : Taken). u.container) (if c then t ∷ filter (λ (u : Taken). nat_le k (l u.value)) ts else filter (λ (u : Taken). nat_le k (l u.value)) ts)) e
      by_bool false e rest = front false e ∙ rest
        where
          front : (b : Bool) → nat_le k (l t.value) ≡ b → held m l k (t ∷ ts) ≡ map (λ (u : Taken). u.container) (if b then t ∷ filter (λ (u : Taken). nat_le k (l u.value)) ts else filter (λ (u : Taken). nat_le k (l u.value)) ts)
          front b e = ap (λ (c : Bool). map (λ (u : Taken). u.container) (if c then t ∷ filter (λ (u : Taken). nat_le k (l u.value)) ts else filter (λ (u : Taken). nat_le k (l u.value)) ts)) e

  fold_same : (vs : List ℕ) (done : List Taken) → AreSame vs → Every (λ (t : Taken). l t.value ≡ l' t.value) done → fold (take_next m l) done vs ≡ fold (take_next m' l') done vs
  fold_same [] done p q = refl
  fold_same (v ∷ vs) done p q =
      let next : take_next m l done v ≡ take_next m' l' done v =
      ap (λ (k : ℕ). push v (least_free (held m l k done))) p.0.0 ∙ ap (λ (cs : List ℕ). push v (least_free cs)) (held_same (m' v) done q) in
      fold_same vs (take_next m l done v) p.1 (p.0.1, q) ∙ ap (λ (ts : List Taken). fold (take_next m' l') ts vs) next
    where
      push : ℕ → ℕ → List Taken
      push v c = record { value = v; container = c } ∷ done

  pub taken_same : (numbers : List ℕ) (n : ℕ) → AreSame numbers → taken m l (order m numbers n) ≡ taken m' l' (order m' numbers n)
  taken_same numbers n p = fold_same (order m numbers n) [] (from_kept numbers 0 n p) tt ∙ ap (λ (vs : List ℕ). taken m' l' vs) (from_same numbers 0 n p)

pub below_range : (P : ℕ → Type 0) (a n : ℕ) → ((v : ℕ) → v < a + n → P v) → Every P (range_with_len a n)
below_range P a zero f = tt
below_range P a (suc n) f = (f a (omega arith), below_range P (a + 1) n (λ v h. f v (omega arith)))

pub past_end : (xs : List ℕ) (v : ℕ) → length xs ≤ v → slice_index xs v ≡ 0
past_end [] v h = refl
past_end (x ∷ xs) zero h = absurd (omega arith)
past_end (x ∷ xs) (suc v) h = past_end xs v (omega arith)

module _ (parts : Parts) (mades lasts : List ℕ) where
  abbrev p : PartsForm
  p = parts_form parts

  -- lists that hold the stages of the values
  pub record AreMarks : Type 0 where
    pub long : length mades ≡ parts.containers
    pub last_long : length lasts ≡ length mades
    pub made_is : (v : ℕ) → v < parts.containers → slice_index mades v ≡ (if nat_lt v (length parts.fields) then 0 else made_from 1 (map stage_form parts.stages) v)
    pub last_is : (v : ℕ) → v < length mades → slice_index lasts v ≡ (if has v (outputs_read p) then length parts.stages + 1 else last_from 1 (map stage_form parts.stages) v (slice_index mades v))

  last_same : AreMarks → (v : ℕ) → v < parts.containers → slice_index lasts v ≡ last p v
  last_same marks v h =
      let end : length parts.stages + 1 ≡ suc (length (map stage_form parts.stages)) = omega (arith, length-forms parts.stages) in
      marks.last_is v (omega (arith, marks.long))
      ∙ ap (λ (z : ℕ). if has v (outputs_read p) then length parts.stages + 1 else last_from 1 (map stage_form parts.stages) v z) (marks.made_is v h)
      ∙ ap (λ (z : ℕ). if has v (outputs_read p) then z else last_from 1 (map stage_form parts.stages) v (made p v)) end

  pub short_marks : AreMarks → ((v : ℕ) → made p v ≤ last p v) → (v : ℕ) → slice_index mades v ≤ slice_index lasts v
  short_marks marks short v = elim (cases_lt v parts.containers) [
    | inl h ↦ omega (arith, marks.made_is v h, last_same marks v h, short v)
    | inr h ↦ omega (arith, past_end mades v (omega (arith, marks.long)))
  ]

  pub all_same : AreMarks → taken_before mades lasts (length parts.stages + 1) ≡ all_taken p
  all_same marks =
      let end : length parts.stages + 1 ≡ suc (length (map stage_form parts.stages)) = omega (arith, length-forms parts.stages) in
      ap (λ (n : ℕ). taken (slice_index mades) (slice_index lasts) (order (slice_index mades) (range_with_len 0 n) (length parts.stages + 1))) marks.long
      ∙ ap (λ (n : ℕ). taken (slice_index mades) (slice_index lasts) (order (slice_index mades) (range_with_len 0 parts.containers) n)) end
      ∙ taken_same (slice_index mades) (slice_index lasts) (made p) (last p) (range_with_len 0 parts.containers) (suc (length (map stage_form parts.stages)))
      (below_range (λ v. (slice_index mades v ≡ made p v) × (slice_index lasts v ≡ last p v)) 0 parts.containers (λ v h. (marks.made_is v (omega arith), last_same marks v (omega arith))))

  -- what the two lists are told to hold
  abbrev pub MadeIs : ℕ → List StageParts → Type 0
  MadeIs fields stages = (v : ℕ) → v < parts.containers → slice_index mades v ≡ (if nat_lt v fields then 0 else made_from 1 (map stage_form stages) v)

  abbrev pub LastIs : List ℕ → List Port → List StageParts → Type 0
  LastIs read outputs stages = (v : ℕ) → v < length read → slice_index lasts v ≡ (if has v (flat_map port_reads outputs) then length stages + 1 else last_from 1 (map stage_form stages) v (slice_index read v))

  pub are_marks : (fields : ℕ) (stages : List StageParts) (outputs : List Port) (read : List ℕ) → fields ≡ length parts.fields → stages ≡ parts.stages → outputs ≡ parts.outputs → read ≡ mades
      → length mades ≡ parts.containers → MadeIs fields stages → length lasts ≡ length read → LastIs read outputs stages → AreMarks
  are_marks fields stages outputs read e f g h long made_is last_long last_is = record {
    long = long;
    last_long = last_long ∙ ap (λ (xs : List ℕ). length xs) h;
    made_is = subst (λ (n : ℕ). MadeIs n parts.stages) e (subst (λ (ss : List StageParts). MadeIs fields ss) f made_is);
    last_is = subst (λ (xs : List ℕ). LastIs xs parts.outputs parts.stages) h (subst (λ (os : List Port). LastIs read os parts.stages) g (subst (λ (ss : List StageParts). LastIs read outputs ss) f last_is));
  }

  -- and what is taken by them
  pub taken_by : (made_list last_list : List ℕ) (stages : List StageParts) → AreMarks → made_list ≡ mades → last_list ≡ lasts → stages ≡ parts.stages → taken_before made_list last_list (length stages + 1) ≡ all_taken p
  taken_by made_list last_list stages marks e f g =
      ap (λ (xs : List ℕ). taken_before xs last_list (length stages + 1)) e ∙ ap (λ (xs : List ℕ). taken_before mades xs (length stages + 1)) f
      ∙ ap (λ (ss : List StageParts). taken_before mades lasts (length ss + 1)) g ∙ all_same marks
