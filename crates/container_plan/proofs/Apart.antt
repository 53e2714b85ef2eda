-- The parts with shared containers are legal, and have as few containers as can be.
use Rattle.std.proofs.Common.{◌≡◌, ℕ, suc, ◌<◌, ◌≤◌, ◌≢◌, ◌⊎◌, inl, inr, List, [], ◌∷◌, ◌++◌, length, map, flat_map, sym, ap, ◌∙◌, subst, arith}
use Rattle.std.proofs.lemmas.Bool.{cases_lt}
use Rattle.std.specs.List.{AllByRecursion as Every, range_with_len}
use Rattle.atom_traits.specs.Renamed.{port_renamed}
use Rattle.banzai_config.specs.Named.{port_reads, stage_targets}
use Rattle.banzai_config.specs.Parts.{PartsForm, StageForm}
use Rattle.banzai_config.specs.Stages.{stage_reads}
use Rattle.container_plan.specs.Facts.{IsIn, AreDistinct}
use Rattle.container_plan.specs.Spans.{Taken, number_in, greatest, is_live, live_count}
use Rattle.container_plan.specs.Renamed.{stage_renamed}
use Rattle.container_plan.specs.Shared.{depth, made, outputs_read, last, values, all_taken, container_of, shared, live_at, live_counts}
use Rattle.container_plan.proofs.Every.{Every-left, Every-right, Every-weaker, map_same, distinct_first, distinct_right}
use Rattle.container_plan.proofs.Greedy.{value_of, found_at, taken_all, taken_apart, live_apart}
use Rattle.container_plan.proofs.Count.{in_range, number_is, every_le_greatest}
use Rattle.container_plan.proofs.Order.{order_sorted, order_early, in_order, count_order, in_left, in_right}
use Rattle.container_plan.proofs.Made.{every_at, every_from, in_append, AreMade, AreLast, AreSpans, are_spans}
use Rattle.container_plan.proofs.Fields.{fields_own}
use Rattle.container_plan.proofs.Renaming.{map-append, all_targets_renamed, ports_read, reads_renamed, targets_renamed}
use Rattle.container_plan.proofs.Rules.{all_targets, AreReadLater, IsApart, IsLegalOne, IsLegalTwo}

pub every_map : (P : ℕ → Type 0) (f : ℕ → ℕ) (xs : List ℕ) → Every (λ x. P (f x)) xs → Every P (map f xs)
every_map P f [] p = tt
every_map P f (x ∷ xs) p = (p.0, every_map P f xs p.1)

pub in_mapped : (f : ℕ → ℕ) (x : ℕ) (xs : List ℕ) → IsIn x xs → IsIn (f x) (map f xs)
in_mapped f x [] i = absurd i
in_mapped f x (y ∷ xs) (inl is) = inl (ap f is)
in_mapped f x (y ∷ xs) (inr i) = inr (in_mapped f x xs i)

-- distinct numbers that a function keeps apart
pub distinct_map : (P : ℕ → Type 0) (f : ℕ → ℕ) → ((x y : ℕ) → P x → P y → x ≢ y → f x ≢ f y) → (xs : List ℕ) → Every P xs → AreDistinct xs → AreDistinct (map f xs)
distinct_map P f apart [] p d = tt
distinct_map P f apart (x ∷ xs) p d = (every_map (λ c. f x ≢ c) f xs (away xs p.1 d.0), distinct_map P f apart xs p.1 d.1)
  where
    away : (ys : List ℕ) → Every P ys → Every (λ y. x ≢ y) ys → Every (λ y. f x ≢ f y) ys
    away [] q n = tt
    away (y ∷ ys) q n = (apart x y p.0 q.0 n.0, away ys q.1 n.1)

module _ (parts : PartsForm) (legal : IsLegalOne parts) where
  abbrev name : ℕ → ℕ
  name v = container_of parts v

  pub spans : AreSpans parts
  spans = are_spans parts legal

  -- fields and what is written are values
  pub is_value : (v : ℕ) → (v < (length parts.fields)) ⊎ IsIn v (all_targets parts.stages) → (v < parts.containers) × (made parts v ≤ depth parts)
  is_value v (inl f) = (omega (arith, legal.readable.entered), omega (arith, spans.entered v f))
  is_value v (inr i) = (every_at (λ c. c < parts.containers) v (all_targets parts.stages) legal.readable.within i, spans.value v i)

  pub is_taken : (v : ℕ) → (v < parts.containers) → (made parts v ≤ depth parts) → IsIn v (map value_of (all_taken parts))
  is_taken v low early = taken_all (made parts) (last parts) (values parts) v
      (in_order (made parts) v (range_with_len 0 parts.containers) (suc (depth parts)) (in_range parts.containers 0 v (omega arith) (omega arith)) (omega arith))

  -- two values that are live at one stage have different containers
  pub names_apart : (k u v : ℕ) → u < parts.containers → v < parts.containers → made parts u ≤ depth parts → made parts v ≤ depth parts → u ≢ v
      → made parts u ≤ k → k ≤ last parts u → made parts v ≤ k → k ≤ last parts v → name u ≢ name v
  names_apart k u v lu lv eu ev ne mu ku mv kv =
      live_apart (made parts) (last parts) (all_taken parts) k u v (taken_apart (made parts) (last parts) (values parts)) (is_taken u lu eu) (is_taken v lv ev) ne mu ku mv kv

  -- a field's value stays in its container
  pub field_own : (v : ℕ) → v < (length parts.fields) → name v ≡ v
  field_own v f =
      let i = is_value v (inl f) in
      found_at (λ w c. w < (length parts.fields) → c ≡ w) (all_taken parts) v (is_taken v i.0 i.1)
      (fields_own (made parts) (last parts) (length parts.fields) spans.entered spans.later parts.containers (depth parts) legal.readable.entered) f

  pub name_within : (v : ℕ) → v < parts.containers → made parts v ≤ depth parts → name v < number_in (all_taken parts)
  name_within v low early =
      let h : suc (name v) ≤ number_in (all_taken parts) =
      found_at (λ w c. suc c ≤ number_in (all_taken parts)) (all_taken parts) v (is_taken v low early) (every_le_greatest (λ (t : Taken). suc t.container) (all_taken parts)) in
      omega arith

  -- the number of containers is the greatest number of values that are live at one stage
  pub shared_number : (shared parts).containers ≡ greatest (live_counts parts)
  shared_number =
      let stages : List ℕ = range_with_len 0 (suc (suc (depth parts))) in
      let numbers : List ℕ = range_with_len 0 parts.containers in
      number_is (made parts) (last parts) spans.short (suc (suc (depth parts))) (values parts)
      (order_sorted (made parts) numbers (suc (depth parts)))
      (Every-weaker (λ v. made parts v < suc (depth parts)) (λ v. made parts v < suc (suc (depth parts))) (λ v h. omega (arith, h)) (values parts)
      (order_early (made parts) numbers (suc (depth parts))))
      ∙ ap greatest (map_same (live_count (made parts) (last parts) (values parts)) (live_at parts) stages
      (every_from (λ k. live_count (made parts) (last parts) (values parts) k ≡ live_at parts k) stages
      (λ k i. count_order (made parts) (is_live (made parts) (last parts) k) (depth parts) numbers)))

  abbrev renamed : StageForm → StageForm
  renamed s = stage_renamed name s

  -- what is read is a field's or is written: also under the new names
  pub reached : (written : List ℕ) (c : ℕ) → (c < (length parts.fields)) ⊎ IsIn c written → (name c < (length parts.fields)) ⊎ IsIn (name c) (map name written)
  reached written c (inl f) = inl (omega (arith, field_own c f))
  reached written c (inr i) = inr (in_mapped name c written i)

  later_renamed : (written : List ℕ) (ss : List StageForm) → AreReadLater (length parts.fields) written ss → AreReadLater (length parts.fields) (map name written) (map renamed ss)
  later_renamed written [] p = tt
  later_renamed written (s ∷ ss) p = (
    subst (λ cs. Every (λ c. (c < (length parts.fields)) ⊎ IsIn c (map name written)) cs) (sym (reads_renamed name s))
        (every_map (λ c. (c < (length parts.fields)) ⊎ IsIn c (map name written)) name (stage_reads s)
        (Every-weaker (λ c. (c < (length parts.fields)) ⊎ IsIn c written) (λ c. (name c < (length parts.fields)) ⊎ IsIn (name c) (map name written)) (λ c h. reached written c h) (stage_reads s) p.0)),
    subst (λ cs. AreReadLater (length parts.fields) cs (map renamed ss)) (map-append name (stage_targets s) written ∙ ap (λ z. z ++ map name written) (sym (targets_renamed name s)))
        (later_renamed (stage_targets s ++ written) ss p.1),
  )

  -- what stands in a stage whose reads and writes are values
  abbrev IsStage : ℕ → ℕ → Type 0
  IsStage k v = (v < parts.containers) × (made parts v ≤ depth parts) × (made parts v ≤ k) × (k ≤ last parts v)

  stage_apart : (k u v : ℕ) → IsStage k u → IsStage k v → u ≢ v → name u ≢ name v
  stage_apart k u v p q ne = names_apart k u v p.0 q.0 p.1 q.1 ne p.2 p.3 q.2 q.3

  abbrev pub AreValues : List ℕ → Type 0
  AreValues cs = Every (λ c. (c < parts.containers) × (made parts c ≤ depth parts)) cs

  apart_renamed : (k : ℕ) (ss : List StageForm) → AreValues (all_targets ss) → Every (λ s. AreValues (stage_reads s)) ss → AreDistinct (all_targets ss)
      → AreMade (length parts.fields) (made parts) (last parts) k ss → AreLast (length parts.fields) (made parts) (last parts) k ss
      → Every IsApart (map renamed ss)
  apart_renamed k [] v r d m l = tt
  apart_renamed k (s ∷ ss) v r d m l =
      let mine : List ℕ = stage_targets s in
      let rest : List ℕ = all_targets ss in
      let mv : (c : ℕ) → IsIn c mine → IsStage (suc k) c = λ c i.
      let h = every_at _ c mine (Every-left _ mine rest v) i in
      let e : made parts c ≡ suc k = every_at (λ w. made parts w ≡ suc k) c mine m.1 i in
      (h.0, h.1, omega arith, omega (arith, spans.short c)) in
      let rv : (c : ℕ) → IsIn c (stage_reads s) → IsStage (suc k) c × (made parts c ≤ k) = λ c i.
      let h = every_at _ c (stage_reads s) r.0 i in
      let e : made parts c ≤ k = every_at (λ w. made parts w ≤ k) c (stage_reads s) m.0 i in
      let g : suc k ≤ last parts c = every_at (λ w. suc k ≤ last parts w) c (stage_reads s) l.0 i in
      ((h.0, h.1, omega arith, g), e) in
      let two : AreDistinct (map name mine) = distinct_map (IsStage (suc k)) name (stage_apart (suc k)) mine (every_from (IsStage (suc k)) mine mv) (distinct_first mine rest d) in
      let one : Every (λ c. Every (λ e. c ≢ e) (map name mine)) (map name (stage_reads s)) =
      every_map (λ c. Every (λ e. c ≢ e) (map name mine)) name (stage_reads s)
      (every_from (λ c. Every (λ e. name c ≢ e) (map name mine)) (stage_reads s) (λ c i. every_map (λ e. name c ≢ e) name mine
      (every_from (λ w. name c ≢ name w) mine (λ w j.
      let ne : c ≢ w = λ is. (let a : made parts c ≤ k = (rv c i).1 in let b : made parts w ≡ suc k = every_at (λ x. made parts x ≡ suc k) w mine m.1 j in let e : made parts c ≡ made parts w = ap (made parts) is in omega arith) in
      stage_apart (suc k) c w (rv c i).0 (mv w j) ne)))) in (
        (
          subst AreDistinct (sym (targets_renamed name s)) two,
          subst (λ ws. Every (λ c. Every (λ e. c ≢ e) ws) (stage_reads (renamed s))) (sym (targets_renamed name s)) (subst (λ rs. Every (λ c. Every (λ e. c ≢ e) (map name mine)) rs) (sym (reads_renamed name s)) one),
        ),
        apart_renamed (suc k) ss (Every-right _ mine rest v) r.1 (distinct_right mine rest d) m.3 l.1,
      )

  -- what is read before is a value
  pub reads_values : (written : List ℕ) (ss : List StageForm) → ((c : ℕ) → IsIn c written → IsIn c (all_targets parts.stages)) → ((c : ℕ) → IsIn c (all_targets ss) → IsIn c (all_targets parts.stages))
      → AreReadLater (length parts.fields) written ss → Every (λ s. AreValues (stage_reads s)) ss
  reads_values written [] f g p = tt
  reads_values written (s ∷ ss) f g p = (
    Every-weaker (λ c. (c < (length parts.fields)) ⊎ IsIn c written) (λ c. (c < parts.containers) × (made parts c ≤ depth parts))
        (λ c h. is_value c (elim h [ inl a ↦ inl a | inr i ↦ inr (f c i) ])) (stage_reads s) p.0,
    reads_values (stage_targets s ++ written) ss
        (λ c i. elim (in_append c (stage_targets s) written i) [ inl j ↦ g c (in_left c (stage_targets s) (all_targets ss) j) | inr j ↦ f c j ])
        (λ c i. g c (in_right c (stage_targets s) (all_targets ss) i)) p.1,
  )

  pub target_values : AreValues (all_targets parts.stages)
  target_values = every_from (λ c. (c < parts.containers) × (made parts c ≤ depth parts)) (all_targets parts.stages) (λ c i. is_value c (inr i))

  -- the parts with shared containers are legal in version 2
  pub shared_legal : IsLegalTwo (shared parts)
  shared_legal = record {
    readable = record {
      entered = fields_within;
      within = subst (λ cs. Every (λ c. c < number_in (all_taken parts)) cs) (sym (all_targets_renamed name parts.stages))
          (every_map (λ c. c < number_in (all_taken parts)) name (all_targets parts.stages)
          (Every-weaker (λ c. (c < parts.containers) × (made parts c ≤ depth parts)) (λ c. name c < number_in (all_taken parts)) (λ c h. name_within c h.0 h.1) (all_targets parts.stages) target_values));
      earlier = later_renamed [] parts.stages legal.readable.earlier;
      shown = subst (λ ws. Every (λ c. (c < (length parts.fields)) ⊎ IsIn c ws) (flat_map port_reads (map (port_renamed name) parts.outputs))) (sym (all_targets_renamed name parts.stages))
          (subst (λ cs. Every (λ c. (c < (length parts.fields)) ⊎ IsIn c (map name (all_targets parts.stages))) cs) (sym (ports_read name parts.outputs))
          (every_map (λ c. (c < (length parts.fields)) ⊎ IsIn c (map name (all_targets parts.stages))) name (outputs_read parts)
          (Every-weaker (λ c. (c < (length parts.fields)) ⊎ IsIn c (all_targets parts.stages)) (λ c. (name c < (length parts.fields)) ⊎ IsIn (name c) (map name (all_targets parts.stages)))
          (λ c h. reached (all_targets parts.stages) c h) (outputs_read parts) legal.readable.shown)));
    };
    apart = apart_renamed 0 parts.stages target_values (reads_values [] parts.stages (λ c i. absurd i) (λ c i. i) legal.readable.earlier) legal.once spans.stages spans.used;
  }
    where
      fields_within : (length parts.fields) ≤ number_in (all_taken parts)
      fields_within = elim (cases_lt (number_in (all_taken parts)) (length parts.fields)) [
        | inl less ↦
            let v : ℕ = number_in (all_taken parts) in
            let i = is_value v (inl less) in
            let w : name v < number_in (all_taken parts) = name_within v i.0 i.1 in
            let o : name v ≡ v = field_own v less in
            absurd (omega arith)
        | inr more ↦ more
      ]

  -- version 1 keeps the rule of version 2 on stages
  apart_one : (k : ℕ) (ss : List StageForm) → AreDistinct (all_targets ss) → AreMade (length parts.fields) (made parts) (last parts) k ss → Every IsApart ss
  apart_one k [] d m = tt
  apart_one k (s ∷ ss) d m = (
    (
      distinct_first (stage_targets s) (all_targets ss) d,
      every_from (λ c. Every (λ e. c ≢ e) (stage_targets s)) (stage_reads s) (λ c i. every_from (λ e. c ≢ e) (stage_targets s) (λ w j is.
          let a : made parts c ≤ k = every_at (λ r. made parts r ≤ k) c (stage_reads s) m.0 i in
          let b : made parts w ≡ suc k = every_at (λ x. made parts x ≡ suc k) w (stage_targets s) m.1 j in
          let e : made parts c ≡ made parts w = ap (made parts) is in
          omega arith)),
    ),
    apart_one (suc k) ss (distinct_right (stage_targets s) (all_targets ss) d) m.3,
  )

  pub one_apart : Every IsApart parts.stages
  one_apart = apart_one 0 parts.stages legal.once spans.stages
