-- The lines of a configuration lead to it, and each draft can be completed.
use Rattle.std.proofs.Common.{◌≡◌, ℕ, zero, suc, ◌+◌, ◌-◌, ◌≤◌, Bool, true, false, ◌==◌, if◌then◌else◌, nat_lt, List, [], ◌∷◌, ◌++◌, map, length, replicate, Option, Some, None, refl, sym, ap, subst, ◌∙◌, arith, append_assoc, length-append}
use Rattle.std.specs.List.{flat_map, list_all}
use Rattle.std.proofs.lemmas.List.{append-nil, map-append}
use Rattle.std.proofs.lemmas.List.Folds.{list_all-append}
use Rattle.std.proofs.lemmas.Bool.{and_from, and_parts, eqb-true, eq-eqb, ltb-true, lt-ltb}
use Rattle.atom_traits.specs.declared.tree.Port.TheVariants as port
use Rattle.atom_traits.specs.declared.tree.Leaf.TheVariants as leaf
use Rattle.banzai_config.specs.declared.parts.Version.TheVariants as version
use Rattle.dom_words.specs.declared.array.Array.{Array}
use Rattle.atom_traits.specs.declared.tree.Port.{Port}
use Rattle.atom_traits.specs.Form.{TreeForm, Ends}
use Rattle.banzai_config.specs.declared.parts.OpAtom.{OpAtom}
use Rattle.banzai_config.specs.declared.parts.PartSlot.{PartSlot}
use Rattle.banzai_config.specs.declared.parts.Version.{Version}
use Rattle.banzai_config.specs.Parts.{AtomForm, StageForm}
use Rattle.config_text.specs.Lines.{Line, head, target, field, array, containers, stage, op, atom, slot, out, the_end, atom_lines, stages_from, stage_lines, lines_of, NamedParts, line_fits, line_text}
use Rattle.config_text.specs.Drafts.{Top, Slots, no_slot, last_slot, two_slots, after_slot, Draft, at_start, headed, in_fields, in_arrays, counted, in_stage, in_outputs, finished, no_stage, with_op, with_atom, one_slot, both_slots, is_none, when, begin_atom, parts, in_stage_step, slots_step, first_step, headed_step, fields_step, arrays_step, counted_step, outputs_step, step, on_draft, steps}
use Rattle.config_text.specs.Fronts.{atom_fits, HasText, is_paired, IsFront, stage_fits}
use Rattle.dom_words.specs.Spelling.{is_name, reserved}
use Rattle.config_text.proofs.Says.{steps_say, steps-append}

fields_run : (v : Version) (t : List ℕ) (fs gs : List (List ℕ)) (rest : List Line) → steps (in_fields v t fs) (map field gs ++ rest) ≡ steps (in_fields v t (fs ++ gs)) rest
fields_run v t fs [] rest = ap (λ l. steps (in_fields v t l) rest) (sym (append-nil fs))
fields_run v t fs (g ∷ gs) rest = fields_run v t (fs ++ g ∷ []) gs rest ∙ ap (λ l. steps (in_fields v t l) rest) (append_assoc fs (g ∷ []) gs)

more_arrays : (v : Version) (t : List ℕ) (fs : List (List ℕ)) (as_ bs : List Array) (rest : List Line) → steps (in_arrays v t fs as_) (map array bs ++ rest) ≡ steps (in_arrays v t fs (as_ ++ bs)) rest
more_arrays v t fs as_ [] rest = ap (λ l. steps (in_arrays v t fs l) rest) (sym (append-nil as_))
more_arrays v t fs as_ (b ∷ bs) rest = more_arrays v t fs (as_ ++ b ∷ []) bs rest ∙ ap (λ l. steps (in_arrays v t fs l) rest) (append_assoc as_ (b ∷ []) bs)

-- from the fields to the containers
arrays_run : (v : Version) (t : List ℕ) (fs : List (List ℕ)) (arrays : List Array) (c : ℕ) (rest : List Line) → 1 ≤ length fs → steps (in_fields v t fs) (map array arrays ++ containers c ∷ rest) ≡ steps (counted (record { version = v; target = t; fields = fs; arrays = arrays; containers = c })) rest
arrays_run v t fs [] c rest h = rw (lt-ltb 0 (length fs) (omega arith)) refl
arrays_run v t fs (a ∷ arrays) c rest h = rw (lt-ltb 0 (length fs) (omega arith)) (more_arrays v t fs (a ∷ []) arrays (containers c ∷ rest))

module _ (top : Top) where
  ops_run : (done : List StageForm) (ops0 ops : List OpAtom) (rest : List Line) → steps (in_stage top done (record { stateless = ops0; stateful = [] }) no_slot) (map op ops ++ rest) ≡ steps (in_stage top done (record { stateless = ops0 ++ ops; stateful = [] }) no_slot) rest
  ops_run done ops0 [] rest = ap (λ l. steps (in_stage top done (record { stateless = l; stateful = [] }) no_slot) rest) (sym (append-nil ops0))
  ops_run done ops0 (o ∷ ops) rest = ops_run done (ops0 ++ o ∷ []) ops rest ∙ ap (λ l. steps (in_stage top done (record { stateless = l; stateful = [] }) no_slot) rest) (append_assoc ops0 (o ∷ []) ops)

  -- the lines of an atom with as many trees as slots
  atom_run : (done : List StageForm) (s : StageForm) (slots : List PartSlot) (first : TreeForm) (second : Option TreeForm) (rest : List Line) → is_paired slots second ≡ true
      → steps (in_stage top done s no_slot) (atom_lines (record { slots = slots; trees = record { first = first; second = second } }) ++ rest) ≡ steps (in_stage top done (with_atom s (record { slots = slots; trees = record { first = first; second = second } })) no_slot) rest
  atom_run done s [] first second rest h = absurd (cc)
  atom_run done s (r ∷ []) first None rest h = refl
  atom_run done s (r ∷ []) first (Some t) rest h = absurd (cc)
  atom_run done s (r ∷ q ∷ []) first None rest h = absurd (cc)
  atom_run done s (r ∷ q ∷ []) first (Some t) rest h = refl
  atom_run done s (r ∷ q ∷ u ∷ more) first second rest h = absurd (cc)

  atoms_run : (done : List StageForm) (ops : List OpAtom) (old new : List AtomForm) (rest : List Line) → list_all atom_fits new ≡ true → steps (in_stage top done (record { stateless = ops; stateful = old }) no_slot) (flat_map atom_lines new ++ rest) ≡ steps (in_stage top done (record { stateless = ops; stateful = old ++ new }) no_slot) rest
  atoms_run done ops old [] rest h = ap (λ l. steps (in_stage top done (record { stateless = ops; stateful = l }) no_slot) rest) (sym (append-nil old))
  atoms_run done ops old (a ∷ new) rest h =
      let both = and_parts (atom_fits a) (list_all atom_fits new) h in
      ap (steps (in_stage top done (record { stateless = ops; stateful = old }) no_slot)) (append_assoc (atom_lines a) (flat_map atom_lines new) rest)
      ∙ atom_run done (record { stateless = ops; stateful = old }) a.slots a.trees.first a.trees.second (flat_map atom_lines new ++ rest) both.0
      ∙ atoms_run done ops (old ++ a ∷ []) new rest both.1
      ∙ ap (λ l. steps (in_stage top done (record { stateless = ops; stateful = l }) no_slot) rest) (append_assoc old (a ∷ []) new)

  stage_run : (done : List StageForm) (s : StageForm) (rest : List Line) → stage_fits s ≡ true → steps (in_stage top done no_stage no_slot) (stage_lines s ++ rest) ≡ steps (in_stage top done s no_slot) rest
  stage_run done s rest h =
      ap (steps (in_stage top done no_stage no_slot)) (append_assoc (map op s.stateless) (flat_map atom_lines s.stateful) rest)
      ∙ ops_run done [] s.stateless (flat_map atom_lines s.stateful ++ rest)
      ∙ atoms_run done s.stateless [] s.stateful rest h

  outs_run : (ss : List StageForm) (os ps : List Port) → length os + length ps ≡ length top.fields → steps (in_outputs top ss os) (map out ps ++ the_end ∷ []) ≡ Some (finished (parts top ss (os ++ ps)))
  outs_run ss os [] h = rw (eq-eqb (length os) (length top.fields) (omega arith)) (ap (λ l. Some (finished (parts top ss l))) (sym (append-nil os)))
  outs_run ss os (p ∷ ps) h =
      rw (lt-ltb (length os) (length top.fields) (omega arith))
      (outs_run ss (os ++ p ∷ []) ps (let n = length-append os (p ∷ []) in omega arith) ∙ ap (λ l. Some (finished (parts top ss l))) (append_assoc os (p ∷ []) ps))

  stages_run : (done : List StageForm) (s : StageForm) (ss : List StageForm) (ps : List Port) → list_all stage_fits ss ≡ true → length ps ≡ length top.fields → 1 ≤ length ps → steps (in_stage top done s no_slot) (stages_from (length done + 2) ss ++ (map out ps ++ the_end ∷ [])) ≡ Some (finished (parts top (done ++ s ∷ ss) ps))
  stages_run done s [] [] f e h = absurd (omega arith)
  stages_run done s [] (p ∷ ps) f e h = outs_run (done ++ s ∷ []) (p ∷ []) ps (omega arith)
  stages_run done s (t ∷ ss) ps f e h =
      let both = and_parts (stage_fits t) (list_all stage_fits ss) f in
      let n : length done + 2 + 1 ≡ length (done ++ s ∷ []) + 2 = (let m = length-append done (s ∷ []) in omega arith) in
      rw (eq-eqb (length done + 2) (length done + 2) refl)
      (ap (steps (in_stage top (done ++ s ∷ []) no_stage no_slot)) (append_assoc (stage_lines t) (stages_from (length done + 2 + 1) ss) (map out ps ++ the_end ∷ []))
      ∙ stage_run (done ++ s ∷ []) t (stages_from (length done + 2 + 1) ss ++ (map out ps ++ the_end ∷ [])) both.0
      ∙ ap (λ k. steps (in_stage top (done ++ s ∷ []) t no_slot) (stages_from k ss ++ (map out ps ++ the_end ∷ []))) n
      ∙ stages_run (done ++ s ∷ []) t ss ps both.1 e h
      ∙ ap (λ l. Some (finished (parts top l ps))) (append_assoc done (s ∷ []) (t ∷ ss)))

  counted_run : (ss : List StageForm) (ps : List Port) → list_all stage_fits ss ≡ true → 1 ≤ length ss → length ps ≡ length top.fields → 1 ≤ length ps → steps (counted top) (stages_from 1 ss ++ (map out ps ++ the_end ∷ [])) ≡ Some (finished (parts top ss ps))
  counted_run [] ps f some e h = absurd (omega arith)
  counted_run (s ∷ ss) ps f some e h =
      let both = and_parts (stage_fits s) (list_all stage_fits ss) f in
      ap (steps (in_stage top [] no_stage no_slot)) (append_assoc (stage_lines s) (stages_from 2 ss) (map out ps ++ the_end ∷ []))
      ∙ stage_run [] s (stages_from 2 ss ++ (map out ps ++ the_end ∷ [])) both.0
      ∙ stages_run [] s ss ps both.1 e h

-- the lines of a configuration lead to it
pub whole_run : (n : NamedParts) → HasText n → steps at_start (lines_of n) ≡ Some (finished n)
whole_run n has =
    let p = n.parts in
    let some = has.fields in
    let each = has.outputs in
    fields_run p.version n.target [] p.fields (map array p.arrays ++ containers p.containers ∷ (stages_from 1 p.stages ++ (map out p.outputs ++ the_end ∷ [])))
    ∙ arrays_run p.version n.target p.fields p.arrays p.containers (stages_from 1 p.stages ++ (map out p.outputs ++ the_end ∷ [])) some
    ∙ counted_run (record { version = p.version; target = n.target; fields = p.fields; arrays = p.arrays; containers = p.containers }) p.stages p.outputs has.atoms has.stages each (omega arith)

-- what a draft keeps
abbrev are_paired : List StageForm → Type 0
are_paired ss = list_all stage_fits ss ≡ true

abbrev Good : Draft → Type 0
Good at_start = Unit {0}
Good (headed v) = Unit {0}
Good (in_fields v t fs) = Unit {0}
Good (in_arrays v t fs arrays) = 1 ≤ length fs
Good (counted top) = 1 ≤ length top.fields
Good (in_stage top done s slots) = (1 ≤ length top.fields) × (are_paired done × (stage_fits s ≡ true))
Good (in_outputs top ss os) = (1 ≤ length top.fields) × ((1 ≤ length ss) × ((length os ≤ length top.fields) × are_paired ss))
Good (finished n) = (1 ≤ length n.parts.fields) × ((1 ≤ length n.parts.stages) × ((length n.parts.outputs ≡ length n.parts.fields) × are_paired n.parts.stages))

when_good : (b : Bool) (d e : Draft) → (b ≡ true → Good d) → when b d ≡ Some e → Good e
when_good true d e h g = let q : d ≡ e = cc in subst Good q (h refl)
when_good false d e h g = absurd (cc)

some_good : (d e : Draft) → Good d → Some d ≡ Some e → Good e
some_good d e h g = let q : d ≡ e = cc in subst Good q h

paired_more : (done : List StageForm) (s : StageForm) → are_paired done → stage_fits s ≡ true → are_paired (done ++ s ∷ [])
paired_more done s d f = list_all-append stage_fits done (s ∷ []) ∙ and_from _ _ d (and_from _ _ f refl)

atom_more : (s : StageForm) (a : AtomForm) → stage_fits s ≡ true → atom_fits a ≡ true → stage_fits (with_atom s a) ≡ true
atom_more s a f g = list_all-append atom_fits s.stateful (a ∷ []) ∙ and_from _ _ f (and_from _ _ g refl)

first_good : (l : Line) → (e : Draft) → first_step l ≡ Some e → Good e
first_good (head v) e h = some_good (headed v) e tt h
first_good (target x) e h = absurd (cc)
first_good (field x) e h = absurd (cc)
first_good (array x) e h = absurd (cc)
first_good (containers x) e h = absurd (cc)
first_good (stage x) e h = absurd (cc)
first_good (op x) e h = absurd (cc)
first_good (atom x) e h = absurd (cc)
first_good (slot x y) e h = absurd (cc)
first_good (out x) e h = absurd (cc)
first_good the_end e h = absurd (cc)

headed_good : (v : Version) (l : Line) → (e : Draft) → headed_step v l ≡ Some e → Good e
headed_good v (target n) e h = some_good (in_fields v n []) e tt h
headed_good v (head x) e h = absurd (cc)
headed_good v (field x) e h = absurd (cc)
headed_good v (array x) e h = absurd (cc)
headed_good v (containers x) e h = absurd (cc)
headed_good v (stage x) e h = absurd (cc)
headed_good v (op x) e h = absurd (cc)
headed_good v (atom x) e h = absurd (cc)
headed_good v (slot x y) e h = absurd (cc)
headed_good v (out x) e h = absurd (cc)
headed_good v the_end e h = absurd (cc)

fields_good : (v : Version) (t : List ℕ) (fs : List (List ℕ)) (l : Line) → (e : Draft) → fields_step v t fs l ≡ Some e → Good e
fields_good v t fs (field n) e h = some_good (in_fields v t (fs ++ n ∷ [])) e tt h
fields_good v t fs (array a) e h = when_good (nat_lt 0 (length fs)) (in_arrays v t fs (a ∷ [])) e (λ b. ltb-true 0 (length fs) b) h
fields_good v t fs (containers n) e h = when_good (nat_lt 0 (length fs)) (counted (record { version = v; target = t; fields = fs; arrays = []; containers = n })) e (λ b. ltb-true 0 (length fs) b) h
fields_good v t fs (head x) e h = absurd (cc)
fields_good v t fs (target x) e h = absurd (cc)
fields_good v t fs (stage x) e h = absurd (cc)
fields_good v t fs (op x) e h = absurd (cc)
fields_good v t fs (atom x) e h = absurd (cc)
fields_good v t fs (slot x y) e h = absurd (cc)
fields_good v t fs (out x) e h = absurd (cc)
fields_good v t fs the_end e h = absurd (cc)

arrays_good : (v : Version) (t : List ℕ) (fs : List (List ℕ)) (arrays : List Array) (l : Line) → 1 ≤ length fs → (e : Draft) → arrays_step v t fs arrays l ≡ Some e → Good e
arrays_good v t fs arrays (array a) g e h = some_good (in_arrays v t fs (arrays ++ a ∷ [])) e g h
arrays_good v t fs arrays (containers n) g e h = some_good (counted (record { version = v; target = t; fields = fs; arrays = arrays; containers = n })) e g h
arrays_good v t fs arrays (head x) g e h = absurd (cc)
arrays_good v t fs arrays (target x) g e h = absurd (cc)
arrays_good v t fs arrays (field x) g e h = absurd (cc)
arrays_good v t fs arrays (stage x) g e h = absurd (cc)
arrays_good v t fs arrays (op x) g e h = absurd (cc)
arrays_good v t fs arrays (atom x) g e h = absurd (cc)
arrays_good v t fs arrays (slot x y) g e h = absurd (cc)
arrays_good v t fs arrays (out x) g e h = absurd (cc)
arrays_good v t fs arrays the_end g e h = absurd (cc)

counted_good : (top : Top) (l : Line) → 1 ≤ length top.fields → (e : Draft) → counted_step top l ≡ Some e → Good e
counted_good top (stage k) g e h = when_good (k == 1) (in_stage top [] no_stage no_slot) e (λ t. (g, (refl, refl))) h
counted_good top (head x) g e h = absurd (cc)
counted_good top (target x) g e h = absurd (cc)
counted_good top (field x) g e h = absurd (cc)
counted_good top (array x) g e h = absurd (cc)
counted_good top (containers x) g e h = absurd (cc)
counted_good top (op x) g e h = absurd (cc)
counted_good top (atom x) g e h = absurd (cc)
counted_good top (slot x y) g e h = absurd (cc)
counted_good top (out x) g e h = absurd (cc)
counted_good top the_end g e h = absurd (cc)

begin_good : (n : ℕ) (top : Top) (done : List StageForm) (s : StageForm) (e : Draft) → Good (in_stage top done s no_slot) → begin_atom n top done s ≡ Some e → Good e
begin_good n top done s e g h = by_one (n == 1) (n == 2) h
  where
    by_one : (a b : Bool) → (if a then Some (in_stage top done s last_slot) else (if b then Some (in_stage top done s two_slots) else None)) ≡ Some e → Good e
    by_one true b h = some_good (in_stage top done s last_slot) e g h
    by_one false true h = some_good (in_stage top done s two_slots) e g h
    by_one false false h = absurd (cc)

stage_good : (top : Top) (done : List StageForm) (s : StageForm) (l : Line) → Good (in_stage top done s no_slot) → (e : Draft) → in_stage_step top done s l ≡ Some e → Good e
stage_good top done s (op a) g e h = when_good (is_none s.stateful) (in_stage top done (with_op s a) no_slot) e (λ t. g) h
stage_good top done s (atom n) g e h = begin_good n top done s e g h
stage_good top done s (stage k) (some, (paired, fit)) e h = when_good (k == length done + 2) (in_stage top (done ++ s ∷ []) no_stage no_slot) e (λ t. (some, (paired_more done s paired fit, refl))) h
stage_good top done s (out p) (some, (paired, fit)) e h = some_good (in_outputs top (done ++ s ∷ []) (p ∷ [])) e (some, ((let n = length-append done (s ∷ []) in omega arith), (some, paired_more done s paired fit))) h
stage_good top done s (head x) g e h = absurd (cc)
stage_good top done s (target x) g e h = absurd (cc)
stage_good top done s (field x) g e h = absurd (cc)
stage_good top done s (array x) g e h = absurd (cc)
stage_good top done s (containers x) g e h = absurd (cc)
stage_good top done s (slot x y) g e h = absurd (cc)
stage_good top done s the_end g e h = absurd (cc)

slots_good : (top : Top) (done : List StageForm) (s : StageForm) (slots : Slots) (l : Line) → Good (in_stage top done s slots) → (e : Draft) → slots_step top done s slots l ≡ Some e → Good e
slots_good top done s no_slot (slot r t) g e h = absurd (cc)
slots_good top done s last_slot (slot r t) (some, (paired, fit)) e h = some_good (in_stage top done (with_atom s (one_slot r t)) no_slot) e (some, (paired, atom_more s (one_slot r t) fit refl)) h
slots_good top done s two_slots (slot r t) g e h = some_good (in_stage top done s (after_slot r t)) e g h
slots_good top done s (after_slot q u) (slot r t) (some, (paired, fit)) e h = some_good (in_stage top done (with_atom s (both_slots q u r t)) no_slot) e (some, (paired, atom_more s (both_slots q u r t) fit refl)) h
slots_good top done s slots (head x) g e h = absurd (cc)
slots_good top done s slots (target x) g e h = absurd (cc)
slots_good top done s slots (field x) g e h = absurd (cc)
slots_good top done s slots (array x) g e h = absurd (cc)
slots_good top done s slots (containers x) g e h = absurd (cc)
slots_good top done s slots (stage x) g e h = absurd (cc)
slots_good top done s slots (op x) g e h = absurd (cc)
slots_good top done s slots (atom x) g e h = absurd (cc)
slots_good top done s slots (out x) g e h = absurd (cc)
slots_good top done s slots the_end g e h = absurd (cc)

outputs_good : (top : Top) (ss : List StageForm) (os : List Port) (l : Line) → Good (in_outputs top ss os) → (e : Draft) → outputs_step top ss os l ≡ Some e → Good e
outputs_good top ss os (out p) (some, (stages, (few, paired))) e h = when_good (nat_lt (length os) (length top.fields)) (in_outputs top ss (os ++ p ∷ [])) e (λ t. (some, (stages, ((let m = length-append os (p ∷ []) in let n = ltb-true (length os) (length top.fields) t in omega arith), paired)))) h
outputs_good top ss os the_end (some, (stages, (few, paired))) e h = when_good (length os == length top.fields) (finished (parts top ss os)) e (λ t. (some, (stages, (eqb-true _ _ t, paired)))) h
outputs_good top ss os (head x) g e h = absurd (cc)
outputs_good top ss os (target x) g e h = absurd (cc)
outputs_good top ss os (field x) g e h = absurd (cc)
outputs_good top ss os (array x) g e h = absurd (cc)
outputs_good top ss os (containers x) g e h = absurd (cc)
outputs_good top ss os (stage x) g e h = absurd (cc)
outputs_good top ss os (op x) g e h = absurd (cc)
outputs_good top ss os (atom x) g e h = absurd (cc)
outputs_good top ss os (slot x y) g e h = absurd (cc)

step_good : (d : Draft) (l : Line) → Good d → (e : Draft) → step d l ≡ Some e → Good e
step_good at_start l g e h = first_good l e h
step_good (headed v) l g e h = headed_good v l e h
step_good (in_fields v t fs) l g e h = fields_good v t fs l e h
step_good (in_arrays v t fs arrays) l g e h = arrays_good v t fs arrays l g e h
step_good (counted top) l g e h = counted_good top l g e h
step_good (in_stage top done s no_slot) l g e h = stage_good top done s l g e h
step_good (in_stage top done s last_slot) l g e h = slots_good top done s last_slot l g e h
step_good (in_stage top done s two_slots) l g e h = slots_good top done s two_slots l g e h
step_good (in_stage top done s (after_slot r t)) l g e h = slots_good top done s (after_slot r t) l g e h
step_good (in_outputs top ss os) l g e h = outputs_good top ss os l g e h
step_good (finished n) l g e h = absurd (cc)

pub steps_good : (d : Draft) (ls : List Line) (e : Draft) → Good d → steps d ls ≡ Some e → Good e
steps_good d [] e g h = some_good d e g h
steps_good d (l ∷ ls) e g h = by_case (step d l) refl (λ f k. steps_good f ls e k) h
  where
    by_case : (o : Option Draft) → step d l ≡ o → ((f : Draft) → Good f → steps f ls ≡ Some e → Good e) → on_draft o (λ f. steps f ls) ≡ Some e → Good e
    by_case None p more h = absurd (cc)
    by_case (Some f) p more h = more f (step_good d l g f p) h

-- lines that complete a draft
pub record Completes (d : Draft) : Type 0 where
  pub more : List Line
  pub named : NamedParts
  pub run : steps d more ≡ Some (finished named)
  pub fit : list_all line_fits more ≡ true

zeros : ℕ → List Port
zeros n = replicate n (port.Const 0)

zeros_fit : (n : ℕ) → list_all line_fits (map out (zeros n) ++ the_end ∷ []) ≡ true
unfolding zeros
zeros_fit zero = refl
zeros_fit (suc n) = zeros_fit n

zeros_length : (n : ℕ) → length (zeros n) ≡ n
unfolding zeros
zeros_length zero = refl
zeros_length (suc n) = ap suc (zeros_length n)

abbrev kept_tree : TreeForm
kept_tree = Ends leaf.Keep

abbrev some_slot : PartSlot
some_slot = record { array = 0; index = port.Const 0; old = None; new = None }

slot_fit : (more : List Line) → list_all line_fits more ≡ true → list_all line_fits (slot some_slot kept_tree ∷ more) ≡ true
slot_fit more f = f

ends_stage : (top : Top) (done : List StageForm) (s : StageForm) → 1 ≤ length top.fields → Completes (in_stage top done s no_slot)
ends_stage top done s g = record {
  more = map out (zeros (length top.fields)) ++ the_end ∷ [];
  named = parts top (done ++ s ∷ []) (zeros (length top.fields));
  run = stages_run top done s [] (zeros (length top.fields)) refl (zeros_length (length top.fields)) (let n = zeros_length (length top.fields) in omega arith);
  fit = zeros_fit (length top.fields);
}

ends_counted : (top : Top) → 1 ≤ length top.fields → Completes (counted top)
ends_counted top g = let r = ends_stage top [] no_stage g in record { more = stage 1 ∷ r.more; named = r.named; run = r.run; fit = r.fit }

ends_slot : (top : Top) (done : List StageForm) (s : StageForm) (q : PartSlot) (u : TreeForm) → 1 ≤ length top.fields → Completes (in_stage top done s (after_slot q u))
ends_slot top done s q u g = let r = ends_stage top done (with_atom s (both_slots q u some_slot kept_tree)) g in record { more = slot some_slot kept_tree ∷ r.more; named = r.named; run = r.run; fit = slot_fit r.more r.fit }

ends_arrays : (v : Version) (t : List ℕ) (fs : List (List ℕ)) (arrays : List Array) → 1 ≤ length fs → Completes (in_arrays v t fs arrays)
ends_arrays v t fs arrays g = let r = ends_counted (record { version = v; target = t; fields = fs; arrays = arrays; containers = 0 }) g in record { more = containers 0 ∷ r.more; named = r.named; run = r.run; fit = r.fit }

-- the letter a is a name
letter_a : is_name (97 ∷ []) ≡ true
unfolding reserved
letter_a = refl

ends_fields : (v : Version) (t : List ℕ) (fs : List (List ℕ)) → Completes (in_fields v t fs)
ends_fields v t [] = let r = ends_counted (record { version = v; target = t; fields = (97 ∷ []) ∷ []; arrays = []; containers = 0 }) (omega arith) in record { more = field (97 ∷ []) ∷ containers 0 ∷ r.more; named = r.named; run = r.run; fit = field_fit (containers 0 ∷ r.more) r.fit }
  where
    field_fit : (more : List Line) → list_all line_fits more ≡ true → list_all line_fits (field (97 ∷ []) ∷ more) ≡ true
    field_fit more f = and_from _ _ letter_a f
ends_fields v t (f ∷ fs) = let r = ends_counted (record { version = v; target = t; fields = f ∷ fs; arrays = []; containers = 0 }) (omega arith) in record { more = containers 0 ∷ r.more; named = r.named; run = rw (lt-ltb 0 (length (f ∷ fs)) (omega arith)) r.run; fit = r.fit }

pub ends : (d : Draft) → Good d → Completes d
ends at_start g = let r = ends_fields version.One (97 ∷ []) [] in record { more = head version.One ∷ target (97 ∷ []) ∷ r.more; named = r.named; run = r.run; fit = r.fit }
ends (headed v) g = let r = ends_fields v (97 ∷ []) [] in record { more = target (97 ∷ []) ∷ r.more; named = r.named; run = r.run; fit = r.fit }
ends (in_fields v t fs) g = ends_fields v t fs
ends (in_arrays v t fs arrays) g = ends_arrays v t fs arrays g
ends (counted top) g = ends_counted top g
ends (in_stage top done s no_slot) g = ends_stage top done s g.0
ends (in_stage top done s last_slot) g = let r = ends_stage top done (with_atom s (one_slot some_slot kept_tree)) g.0 in record { more = slot some_slot kept_tree ∷ r.more; named = r.named; run = r.run; fit = slot_fit r.more r.fit }
ends (in_stage top done s two_slots) g = let r = ends_slot top done s some_slot kept_tree g.0 in record { more = slot some_slot kept_tree ∷ r.more; named = r.named; run = r.run; fit = slot_fit r.more r.fit }
ends (in_stage top done s (after_slot q u)) g = ends_slot top done s q u g.0
ends (in_outputs top ss os) g = record {
  more = map out (zeros (length top.fields - length os)) ++ the_end ∷ [];
  named = parts top ss (os ++ zeros (length top.fields - length os));
  run = outs_run top ss os (zeros (length top.fields - length os)) (let n = zeros_length (length top.fields - length os) in let m = g.1.1.0 in omega arith);
  fit = zeros_fit (length top.fields - length os);
}
ends (finished n) g = record { more = []; named = n; run = refl; fit = refl }

text_from : (ls : List Line) (n : NamedParts) → steps at_start ls ≡ Some (finished n) → list_all line_fits (lines_of n) ≡ true → HasText n
text_from ls n run fit =
    let good = steps_good at_start ls (finished n) tt run in
    record { fields = good.0; stages = good.1.0; outputs = good.1.1.0; atoms = good.1.1.1; lines = fit }

-- lines that lead somewhere are a front
pub front_of : (ls : List Line) (d : Draft) → steps at_start ls ≡ Some d → list_all line_fits ls ≡ true → IsFront (map line_text ls)
front_of ls d h f =
    let r = ends d (steps_good at_start ls d tt h) in
    let run : steps at_start (ls ++ r.more) ≡ Some (finished r.named) = steps-append at_start ls r.more ∙ ap (λ o. on_draft o (λ e. steps e r.more)) h ∙ r.run in
    let same : lines_of r.named ≡ ls ++ r.more = steps_say at_start (ls ++ r.more) (finished r.named) run in
    (r.named, (text_from (ls ++ r.more) r.named run (ap (list_all line_fits) same ∙ list_all-append line_fits ls r.more ∙ and_from _ _ f r.fit), (map line_text r.more, ap (map line_text) same ∙ map-append line_text ls r.more)))

-- lines that finish are those of the configuration
pub whole_of : (ls : List Line) (n : NamedParts) → steps at_start ls ≡ Some (finished n) → list_all line_fits ls ≡ true → HasText n × (lines_of n ≡ ls)
whole_of ls n h f =
    let same = steps_say at_start ls (finished n) h in
    (text_from ls n h (ap (list_all line_fits) same ∙ f), same)
