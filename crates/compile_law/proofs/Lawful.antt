-- Compiled parts break no rule of a target whose template and multipliers the atoms fit.
use Rattle.std.proofs.Common.{◌≡◌, ℕ, zero, suc, ◌+◌, ◌-◌, ◌<◌, ◌≤◌, Bool, true, false, not, ◌&&◌, ◌||◌, nat_eq, nat_le, nat_lt, cond, Option, Some, None, List, [], ◌∷◌, ◌++◌, length, map, refl, sym, ap, ◌∙◌, subst, arith, ◌≢◌, ◌⊎◌, inl, inr, if◌then◌else◌}
use Rattle.std.specs.Prelude.{find, slice_get}
use Rattle.std.specs.List.{flat_map, list_all, AllByRecursion as Every}
use Rattle.std.proofs.lemmas.Bool.{and_from, and_parts, eq-eqb, eqb-false, eqb-true, le-leb, lt-ltb, or_left, or_right}
use Rattle.dom_words.specs.State.{is_length, state_words}
use Rattle.dom_words.specs.declared.array.Array.{Array}
use Rattle.dom_flat.specs.declared.line.Line.{Line}
use Rattle.dom_flat.specs.declared.line.Line.TheVariants as line
use Rattle.dom_flat.specs.declared.line.Operand.{Operand}
use Rattle.dom_flat.specs.Kept.{has_array, has_its_args, has_small_modulus}
use Rattle.dom_flat.specs.Lines.{with_operands}
use Rattle.dom_flat.proofs.Positions.{all_at}
use Rattle.codelets.specs.declared.answer.Codelets.{Codelets}
use Rattle.codelets.specs.declared.codelet.Codelet.{Codelet}
use Rattle.codelets.specs.declared.held.Held.{Held}
use Rattle.codelets.specs.Containers.{containers, place}
use Rattle.codelets.specs.Cut.{cut, line_of, option_line, outer, seen_by}
use Rattle.codelets.specs.Flat.{linked_of}
use Rattle.codelets.specs.Held.{exports, held}
use Rattle.codelets.specs.Laws.{CodeletLaws, Shown, ShownConst, ShownField, ShownValue, SlotOf}
use Rattle.codelets.specs.Linked.{Linked, IsLinked, count}
use Rattle.codelets.specs.Lists.{IsIn, has}
use Rattle.codelets.proofs.AllLaws.{codelet_laws}
use Rattle.codelets.proofs.FlatLinked.{flat_linked}
use Rattle.codelets.proofs.Given.{array_within}
use Rattle.codelets.proofs.Lists.{any_in, in_left, in_right, map_in}
use Rattle.codelets.proofs.Order.{every_at}
use Rattle.stage_plan.specs.declared.place.Place.{Place}
use Rattle.stage_plan.specs.Schedule.{IsPlan, atoms_at}
use Rattle.codelets.specs.declared.codelet.Kind.TheVariants.{Stateless as StatelessKind, Stateful as StatefulKind}
use Rattle.atom_traits.specs.declared.operation.StatelessOp.{StatelessOp}
use Rattle.atom_traits.specs.declared.operation.StatelessOp.TheVariants as op
use Rattle.atom_traits.specs.declared.tree.Port.{Port}
use Rattle.atom_traits.specs.Form.{TreesForm, count_of}
use Rattle.atom_traits.specs.Operation.{needs_multiplier, operation_has_args}
use Rattle.atom_traits.specs.Tests.{all_within, name_states}
use Rattle.atom_match.specs.Atoms.{AtomForm as Does, Operates, Updates, atom_of, first_outside, fits_atom, fits_codelet, operator_of, port_of}
use Rattle.atom_match.proofs.Given.{all_from}
use Rattle.banzai_config.specs.declared.parts.PartSlot.{PartSlot}
use Rattle.banzai_config.specs.declared.fault.ConfigKind.TheVariants as kind
use Rattle.banzai_config.specs.Checked.{shape_with}
use Rattle.banzai_config.specs.Legal.{LegalFor, Shape, are_below, are_known, are_names, are_counts_right, at, has as among, has_good_numbers, head_holds, is_known, is_modulus_small, is_there, length_of_array, name_of_array, output_rules, rules_of, sizes_of, stage_rules, standing, standing_after, test}
use Rattle.banzai_config.specs.Named.{arrays_of, port_reads, reads_of, stage_targets, targets_of}
use Rattle.banzai_config.specs.Parts.{Atom, Stateless, Stateful, PartsForm}
use Rattle.compile_law.specs.Compiled.{AreAtomsOf, Staged, compiled_parts, part_of, port_at, stage_at, staged, stages_from}
use Rattle.compile_law.proofs.Compiled.{room}
use Rattle.compile_law.proofs.Every.{Every-append}
use Rattle.compile_law.proofs.Legal.{targets_distinct, writes_late}
use Rattle.compile_law.proofs.Parts.{arrays_distinct, atom_at, exporter, fields_fit, in_all, knows, owns_are, within}
use Rattle.compile_law.proofs.Placed.{answer_at, from, length_map, planned, port_is}
use Rattle.compile_law.proofs.Planned.{IsPartOf, IsPlanned, atom_slot}
use Rattle.compile_law.proofs.PortTests.{enters_below, reads_pass}
use Rattle.compile_law.proofs.Walk.{AreLawful, Holds, IsFit, all_stages_hold, none_broken, sizes, to_stage}
use Rattle.compile_law.proofs.Widths.{stateful_at, stateless_at}

-- a test that does not look at operands passes where it does in the statement list
line_has : (P : Linked) (t : Line → Bool) → ((f : Operand → Operand) (l : Line) → t (with_operands f l) ≡ t l) → list_all t P.lines ≡ true
    → (b : ℕ) (l : Line) → line_of (cut P) b ≡ Some l → t l ≡ true
line_has P t blind all b l e = by_case (nat_lt b (count P)) (has (cut P).twins (b - count P)) e
  where
    from_line : (f : Operand → Operand) (k : ℕ) (found : Option Line) → slice_get P.lines k ≡ found → option_line (with_operands f) found ≡ Some l → t l ≡ true
    from_line f k None at is = absurd (cc)
    from_line f k (Some m) at is =
        let same : with_operands f m ≡ l = cc in
        ap t (sym same) ∙ blind f m ∙ all_at t P.lines k m all at

    by_case : (x y : Bool) → (if x then option_line (with_operands (seen_by (cut P) b)) (slice_get P.lines b) else (if y then option_line (with_operands (outer (cut P))) (slice_get P.lines (b - count P)) else None)) ≡ Some l → t l ≡ true
    by_case true y is = from_line (seen_by (cut P) b) b (slice_get P.lines b) refl is
    by_case false true is = from_line (outer (cut P)) (b - count P) (slice_get P.lines (b - count P)) refl is
    by_case false false is = absurd (cc)

args_blind : (f : Operand → Operand) (l : Line) → has_its_args (with_operands f l) ≡ has_its_args l
args_blind f (line.Fetch a i) = refl
args_blind f (line.Store a i v) = refl
args_blind f (line.Un p a) = refl
args_blind f (line.Bin p a b) = refl
args_blind f (line.Cond c a b) = refl
args_blind f (line.Hash unit modulus args) = ap (λ (n : ℕ). nat_eq n unit.args) (length_map f args)

modulus_blind : (f : Operand → Operand) (l : Line) → has_small_modulus (with_operands f l) ≡ has_small_modulus l
modulus_blind f (line.Fetch a i) = refl
modulus_blind f (line.Store a i v) = refl
modulus_blind f (line.Un p a) = refl
modulus_blind f (line.Bin p a b) = refl
modulus_blind f (line.Cond c a b) = refl
modulus_blind f (line.Hash unit modulus args) = refl

all_args : (arrays : ℕ) (lines : List Line) → list_all (λ l. has_array arrays l && has_its_args l) lines ≡ true → list_all has_its_args lines ≡ true
all_args arrays [] e = refl
all_args arrays (l ∷ lines) e =
    let h = and_parts (has_array arrays l && has_its_args l) (list_all (λ l. has_array arrays l && has_its_args l) lines) e in
    and_from (has_its_args l) (list_all has_its_args lines) (and_parts (has_array arrays l) (has_its_args l) h.0).1 (all_args arrays lines h.1)

operator_args : (k : ℕ → ℕ) (l : Line) (o : StatelessOp) → operator_of k l ≡ Some o → has_its_args l ≡ true → operation_has_args o ≡ true
operator_args k (line.Fetch a i) o e h = absurd (cc)
operator_args k (line.Store a i v) o e h = absurd (cc)
operator_args k (line.Un p a) o e h = let same : op.Un p (port_of k a) ≡ o = cc in ap operation_has_args (sym same)
operator_args k (line.Bin p a b) o e h = let same : op.Bin p (port_of k a) (port_of k b) ≡ o = cc in ap operation_has_args (sym same)
operator_args k (line.Cond c a b) o e h = let same : op.Cond (port_of k c) (port_of k a) (port_of k b) ≡ o = cc in ap operation_has_args (sym same)
operator_args k (line.Hash unit modulus args) o e h =
    let same : op.Hash unit modulus (map (port_of k) args) ≡ o = cc in
    ap operation_has_args (sym same) ∙ ap (λ (n : ℕ). nat_eq n unit.args) (length_map (port_of k) args) ∙ h

operator_modulus : (k : ℕ → ℕ) (l : Line) (o : StatelessOp) → operator_of k l ≡ Some o → has_small_modulus l ≡ true → is_modulus_small o ≡ true
operator_modulus k (line.Fetch a i) o e h = absurd (cc)
operator_modulus k (line.Store a i v) o e h = absurd (cc)
operator_modulus k (line.Un p a) o e h = let same : op.Un p (port_of k a) ≡ o = cc in ap is_modulus_small (sym same)
operator_modulus k (line.Bin p a b) o e h = let same : op.Bin p (port_of k a) (port_of k b) ≡ o = cc in ap is_modulus_small (sym same)
operator_modulus k (line.Cond c a b) o e h = let same : op.Cond (port_of k c) (port_of k a) (port_of k b) ≡ o = cc in ap is_modulus_small (sym same)
operator_modulus k (line.Hash unit modulus args) o e h = let same : op.Hash unit modulus (map (port_of k) args) ≡ o = cc in ap is_modulus_small (sym same) ∙ h

-- where no first one is found, none fails
none_found : {X : Type 0} (t : X → Bool) (xs : List X) → find (λ x. not (t x)) xs ≡ None → (k : ℕ) (x : X) → slice_get xs k ≡ Some x → t x ≡ true
none_found {X = X} t [] e k x at = absurd (cc)
none_found {X = X} t (y ∷ xs) e k x at = by_case (none_found t xs) (t y) refl e k at
  where
    by_case : (find (λ x. not (t x)) xs ≡ None → (k : ℕ) (x : X) → slice_get xs k ≡ Some x → t x ≡ true) → (b : Bool) → t y ≡ b → cond (not b) (Some y) (find (λ x. not (t x)) xs) ≡ None → (k : ℕ) → slice_get (y ∷ xs) k ≡ Some x → t x ≡ true
    by_case later false q f k at = absurd (cc)
    by_case later true q f zero at = let same : y ≡ x = cc in ap t (sym same) ∙ q
    by_case later true q f (suc k) at = later f k x at

-- lists of arrays as a flat list has them have words
words_there : (arrays : List Array) → list_all (λ (a : Array). is_length a.length) arrays ≡ true → list_all (λ (a : Array). nat_le 1 (length_of_array a)) arrays ≡ true
words_there [] e = refl
words_there (a ∷ arrays) e =
    let h = and_parts (is_length a.length) (list_all (λ (a : Array). is_length a.length) arrays) e in
    and_from (nat_le 1 (length_of_array a)) (list_all (λ (a : Array). nat_le 1 (length_of_array a)) arrays) (and_parts (nat_le 1 a.length) (nat_le a.length 1048576) h.0).0 (words_there arrays h.1)

length_stages : (qs : List Staged) (k n : ℕ) → length (stages_from qs k n) ≡ n
length_stages qs k zero = refl
length_stages qs k (suc n) = ap (λ (m : ℕ). suc m) (length_stages qs (suc k) n)

-- a container that an atom of a stage writes is written by the stages
in_written : (s : Shape) (fields arrays size : ℕ) (qs : List Staged) (k n x : ℕ) (r : Staged) → IsIn r qs → k < r.stage → r.stage ≤ k + n → IsIn x (targets_of r.atom) → IsIn x (flat_map stage_targets (stages_from qs k n))
in_written s fields arrays size qs k zero x r i low high o = absurd (omega arith)
in_written s fields arrays size qs k (suc n) x r i low high o = by_case (λ above. in_written s fields arrays size qs (suc k) n x r i above (omega (arith, high)) o) (nat_eq r.stage (suc k)) refl
  where
    rest : List ℕ
    rest = flat_map stage_targets (stages_from qs (suc k) n)

    by_case : (suc k < r.stage → IsIn x rest) → (b : Bool) → nat_eq r.stage (suc k) ≡ b → IsIn x (stage_targets (stage_at qs (suc k)) ++ rest)
    by_case later true e = in_left (stage_targets (stage_at qs (suc k))) rest x (to_stage s fields arrays size qs targets_of (suc k) x r i (eqb-true r.stage (suc k) e) o)
    by_case later false e =
        let ne : r.stage ≢ suc k = eqb-false r.stage (suc k) e in
        let above : suc k < r.stage = omega (arith, low, ne) in
        in_right (stage_targets (stage_at qs (suc k))) rest x (later above)

-- outputs whose containers are there and known break no rule
outputs_hold : (s : Shape) (fields arrays size : ℕ) (written : List ℕ) (before os : List Port)
    → ((o : Port) → IsIn o os → (are_below size (port_reads o) ≡ true) × (are_known fields written (port_reads o) ≡ true))
    → Every Holds (flat_map (output_rules s (sizes s fields arrays size []) written) (standing_after before os))
outputs_hold s fields arrays size written before [] each = tt
outputs_hold s fields arrays size written before (o ∷ os) each =
    let h = each o (inl refl) in
    Every-append Holds (output_rules s (sizes s fields arrays size []) written (record { before = before; item = o })) (flat_map (output_rules s (sizes s fields arrays size []) written) (standing_after (before ++ o ∷ []) os))
    (h.0, (h.1, tt)) (outputs_hold s fields arrays size written (before ++ o ∷ []) os (λ p i. each p (inr i)))

module _ (cs : Codelets) (depth stateless stateful : ℕ) (atoms : List Does) (places : List Place) (are : AreAtomsOf cs atoms) (plan : IsPlan depth stateless stateful cs.list places) where
  abbrev P : Linked
  P = linked_of cs.flat

  abbrev size : ℕ
  size = length cs.values

  abbrev qs : List Staged
  qs = staged cs atoms places

  abbrev parts : PartsForm
  parts = compiled_parts cs depth atoms places

  ok : IsLinked P
  ok = flat_linked cs.flat

  laws : CodeletLaws P
  laws = codelet_laws P ok

  good : IsPlanned P depth qs
  good = planned cs depth stateless stateful atoms places are plan

  module _ (fits : TreesForm → Bool) (bits : ℕ) (multiplies : Bool) (narrow : (t : TreesForm) → fits t ≡ true → all_within bits t ≡ true) (own : (t : TreesForm) → fits t ≡ true → name_states (count_of t) t ≡ true) (inside : first_outside fits multiplies cs ≡ None) where
    abbrev target : Shape
    target = shape_with fits bits depth stateless stateful multiplies

    -- the trees fit, or the operator does
    abbrev accepts : Atom → Bool
    accepts (Stateless a) = multiplies || not (needs_multiplier a.op)
    accepts (Stateful a) = fits a.trees

    part_accepted : (c : Codelet) (a : Does) → fits_atom fits multiplies (Some a) ≡ true → accepts (part_of cs c a) ≡ true
    part_accepted c (Operates o) e = e
    part_accepted c (Updates t) e = e

    accepted : (q : Staged) → IsIn q qs → accepts q.atom ≡ true
    accepted q i =
        let f = from cs depth stateless stateful atoms places are plan q i in
        let does : atom_of cs f.codelet ≡ Some f.does = answer_at (atom_of cs) cs.list atoms f.at f.codelet f.does are f.codelet_at f.does_at in
        let fine : fits_codelet fits multiplies cs f.codelet ≡ true = none_found (fits_codelet fits multiplies cs) cs.list inside f.at f.codelet f.codelet_at in
        ap (λ (r : Staged). accepts r.atom) f.whole ∙ part_accepted f.codelet f.does (sym (ap (fits_atom fits multiplies) does) ∙ fine)

    good_numbers : (c : List ℕ) (a : Atom) → IsPartOf P c a → accepts a ≡ true → has_good_numbers a ≡ true
    good_numbers c (Stateless a) (is, to_is) e =
        and_from (operation_has_args a.op) (is_modulus_small a.op)
        (operator_args (place (cut P)) is.its a.op is.operator (line_has P has_its_args args_blind (all_args (length cs.flat.arrays) cs.flat.lines cs.flat.ranges) is.number is.its is.there))
        (operator_modulus (place (cut P)) is.its a.op is.operator (line_has P has_small_modulus modulus_blind cs.flat.small_moduli is.number is.its is.there))
    good_numbers c (Stateful a) (are, slots_are) e =
        let many : length a.slots ≡ count_of a.trees = ap (length {A = PartSlot}) slots_are ∙ length_map (atom_slot P) (held (cut P) c) ∙ are.slots in
        ap (λ (n : ℕ). name_states n a.trees) many ∙ own a.trees e

    -- the arrays of an atom are there
    arrays_there : (q : Staged) → IsIn q qs → (x : ℕ) → IsIn x (arrays_of q.atom) → x < length cs.flat.arrays
    arrays_there q i x j =
        let c : List ℕ = q.members in
        let ci : IsIn c (cut P).all = in_all P laws depth qs good q i in
        let k : IsIn x (map (λ (h : Held). h.array) (held (cut P) c)) = subst (λ (xs : List ℕ). IsIn x xs) (owns_are P laws depth qs good c ci q.atom (atom_at P laws depth qs good q i)) j in
        let h = map_in (λ (h : Held). h.array) (held (cut P) c) x k in
        let s : SlotOf P c h.0 = laws.slots c h.0 ci h.1 in
        subst (λ (y : ℕ). y < length cs.flat.arrays) (sym h.2) (array_within P ok s.at h.0.array s.index_of s.fetch)

    fit : (q : Staged) → IsIn q qs → IsFit target (length cs.flat.fields) (length cs.flat.arrays) size qs q.atom
    fit q i = by_atom q.atom (atom_at P laws depth qs good q i) (accepted q i) there
      where
        there : is_there (sizes target (length cs.flat.fields) (length cs.flat.arrays) size qs) q.atom ≡ true
        there =
            and_from (are_below size (reads_of q.atom) && are_below size (targets_of q.atom)) (are_below (length cs.flat.arrays) (arrays_of q.atom) && has_good_numbers q.atom)
            (and_from (are_below size (reads_of q.atom)) (are_below size (targets_of q.atom))
            (reads_pass P ok depth qs good q i (λ c. nat_lt c size) (λ v en. lt-ltb (place (cut P) v) size (enters_below P ok depth qs good size (room cs) q.members v en)))
            (all_from (λ c. nat_lt c size) (targets_of q.atom) (λ c j. lt-ltb c size (every_at (λ d. d < size) (targets_of q.atom) c (within P laws depth qs good size (room cs) q i) j))))
            (and_from (are_below (length cs.flat.arrays) (arrays_of q.atom)) (has_good_numbers q.atom)
            (all_from (λ c. nat_lt c (length cs.flat.arrays)) (arrays_of q.atom) (λ c j. lt-ltb c (length cs.flat.arrays) (arrays_there q i c j)))
            (good_numbers q.members q.atom (atom_at P laws depth qs good q i) (accepted q i)))

        by_atom : (a : Atom) → IsPartOf P q.members a → accepts a ≡ true → is_there (sizes target (length cs.flat.fields) (length cs.flat.arrays) size qs) a ≡ true
            → IsFit target (length cs.flat.fields) (length cs.flat.arrays) size qs a
        by_atom (Stateless a) (is, to_is) e h = record { there = h; multiplier = e; narrow = refl; pattern = refl }
        by_atom (Stateful a) (are, slots_are) e h =
            let many : length a.slots ≡ count_of a.trees = ap (length {A = PartSlot}) slots_are ∙ length_map (atom_slot P) (held (cut P) q.members) ∙ are.slots in
            record {
              there = h;
              multiplier = refl;
              narrow = narrow a.trees e;
              pattern = and_from (nat_eq (count_of a.trees) (length a.slots)) (fits a.trees) (eq-eqb (count_of a.trees) (length a.slots) (sym many)) e;
            }

    lawful : AreLawful target (length cs.flat.fields) (length cs.flat.arrays) size qs
    lawful = record {
      fit = fit;
      reads = λ q i r each. reads_pass P ok depth qs good q i r (λ v en. each (place (cut P) v) (knows P laws depth qs good q i v en).1);
      late = λ q i c j. (every_at (λ c. (P.fields ≤ c) × (c < size)) (targets_of q.atom) c (writes_late P ok depth qs good size (room cs) q i) j).0;
      arrays_once = arrays_distinct P laws depth qs good;
      targets_once = targets_distinct P ok depth qs good;
      widths = λ k. (
        (let n = stateless_at cs k atoms places are plan.kinds in let w : atoms_at places StatelessKind k ≤ stateless = plan.widths StatelessKind k in omega (arith, n, w)),
        (let n = stateful_at cs k atoms places are plan.kinds in let w : atoms_at places StatefulKind k ≤ stateful = plan.widths StatefulKind k in omega (arith, n, w)),
      );
      stages = λ q i. (every_at (λ (q : Staged). (1 ≤ q.stage) × (q.stage ≤ depth)) qs q good.stages i).0;
    }

    abbrev written : List ℕ
    written = flat_map stage_targets parts.stages

    -- an output's container is there and known
    output_known : (o : Operand) → Shown P o → (are_below size (port_reads (port_of (place (cut P)) o)) ≡ true) × (are_known P.fields written (port_reads (port_of (place (cut P)) o)) ≡ true)
    output_known o shown = (by_test (λ c. nat_lt c size) below shown, by_test (is_known P.fields written) known shown)
      where
        by_test : (r : ℕ → Bool) → ((v : ℕ) → (v < P.fields) ⊎ ((d : List ℕ) × IsIn d (cut P).all × IsIn v (exports (cut P) d)) → r (place (cut P) v) ≡ true) → Shown P o
            → list_all r (port_reads (port_of (place (cut P)) o)) ≡ true
        by_test r each (ShownConst w e) = ap (λ (x : Operand). list_all r (port_reads (port_of (place (cut P)) x))) e
        by_test r each (ShownField v e low) = ap (λ (x : Operand). list_all r (port_reads (port_of (place (cut P)) x))) e ∙ and_from (r (place (cut P) v)) true (each v (inl low)) refl
        by_test r each (ShownValue d v e i x) = ap (λ (x : Operand). list_all r (port_reads (port_of (place (cut P)) x))) e ∙ and_from (r (place (cut P) v)) true (each v (inr (d, i, x))) refl

        below : (v : ℕ) → (v < P.fields) ⊎ ((d : List ℕ) × IsIn d (cut P).all × IsIn v (exports (cut P) d)) → nat_lt (place (cut P) v) size ≡ true
        below v (inl low) = let w = (laws.placed v (laws.field_has v low)).within in let n = room cs in lt-ltb (place (cut P) v) size (omega (arith, w, n))
        below v (inr (d, i, x)) = let w = (laws.placed v (laws.export_has d v i x)).within in let n = room cs in lt-ltb (place (cut P) v) size (omega (arith, w, n))

        known : (v : ℕ) → (v < P.fields) ⊎ ((d : List ℕ) × IsIn d (cut P).all × IsIn v (exports (cut P) d)) → is_known P.fields written (place (cut P) v) ≡ true
        known v (inl low) = or_left (nat_lt (place (cut P) v) P.fields) (among (place (cut P) v) written) (lt-ltb (place (cut P) v) P.fields (subst (λ (u : ℕ). u < P.fields) (sym (laws.fields v low).0) low))
        known v (inr (d, i, x)) =
            let r = exporter P laws depth qs good d v i x in
            let w = every_at (λ (q : Staged). (1 ≤ q.stage) × (q.stage ≤ depth)) qs r.0 good.stages r.1 in
            let low : 0 < r.0.stage = w.0 in
            let high : r.0.stage ≤ 0 + depth = omega (arith, w.1) in
            or_right (nat_lt (place (cut P) v) P.fields) (among (place (cut P) v) written)
            (any_in (nat_eq (place (cut P) v)) written (place (cut P) v) (in_written target P.fields (length cs.flat.arrays) size qs 0 depth (place (cut P) v) r.0 r.1 low high r.3) (eq-eqb (place (cut P) v) (place (cut P) v) refl))

    head : are_names cs.flat.fields ≡ true → are_names (map name_of_array cs.flat.arrays) ≡ true → head_holds parts ≡ true
    head named arrays_named =
        let fit : P.fields ≤ containers (cut P) = fields_fit P laws depth qs good in
        let n = room cs in
        let few = cs.few_values in
        let some : 1 ≤ length cs.flat.fields = cs.flat.some_fields in
        let fields : length cs.flat.fields ≤ 64 = cs.flat.few_fields in
        let arrays : length cs.flat.arrays ≤ 32 = cs.flat.few_arrays in
        let lines : length cs.flat.lines ≤ 512 = cs.flat.few_lines in
        let words : state_words cs.flat.arrays ≤ 1048576 = cs.flat.few_words in
        and_from (are_counts_right parts) (are_names (map name_of_array cs.flat.arrays) && are_names cs.flat.fields)
        (and_from _ _ (le-leb 1 (length cs.flat.fields) some)
        (and_from _ _ (le-leb (length cs.flat.fields) 64 fields)
        (and_from _ _ (le-leb (length cs.flat.arrays) 32 arrays)
        (and_from _ _ (and_from _ _ (words_there cs.flat.arrays cs.flat.lengths) (le-leb (state_words cs.flat.arrays) 1048576 words))
        (and_from _ _ (le-leb (length cs.flat.fields) size (omega (arith, fit, n))) (le-leb size 2048 (omega (arith, few, fields, lines))))))))
        (and_from _ _ arrays_named named)

    many_outputs : length parts.outputs ≡ length cs.flat.fields
    many_outputs = length_map (port_at cs) cs.outputs ∙ ap (length {A = Operand}) cs.is_outputs ∙ length_map (outer (cut P)) cs.flat.outputs ∙ cs.flat.one_output_each

    outputs : (o : Port) → IsIn o parts.outputs → (are_below size (port_reads o) ≡ true) × (are_known P.fields written (port_reads o) ≡ true)
    outputs o i =
        let a = map_in (port_at cs) cs.outputs o i in
        let b = map_in (outer (cut P)) cs.flat.outputs a.0 (subst (λ (os : List Operand). IsIn a.0 os) cs.is_outputs a.1) in
        let is : o ≡ port_of (place (cut P)) (outer (cut P) b.0) = a.2 ∙ port_is cs a.0 ∙ ap (port_of (place (cut P))) b.2 in
        subst (λ (p : Port). (are_below size (port_reads p) ≡ true) × (are_known P.fields written (port_reads p) ≡ true)) (sym is) (output_known (outer (cut P) b.0) (laws.shown b.0 b.1))

    -- compiled parts are legal
    pub legal : are_names cs.flat.fields ≡ true → are_names (map name_of_array cs.flat.arrays) ≡ true → LegalFor target parts
    legal named arrays_named = none_broken (rules_of target parts) (
      head named arrays_named,
      (
        eq-eqb (length parts.stages) depth (length_stages qs 0 depth),
        Every-append Holds (flat_map (stage_rules target (sizes target P.fields (length cs.flat.arrays) size qs)) (standing parts.stages))
            (at (depth + 1) 0 (test kind.BadNumber (nat_eq (length parts.outputs) (length parts.fields))) ∷ flat_map (output_rules target (sizes_of parts) written) (standing parts.outputs))
            (all_stages_hold target P.fields (length cs.flat.arrays) size qs lawful depth)
            (eq-eqb (length parts.outputs) (length parts.fields) many_outputs, outputs_hold target P.fields (length cs.flat.arrays) size written [] parts.outputs outputs),
      ),
    )
