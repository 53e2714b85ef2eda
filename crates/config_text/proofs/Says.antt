-- Lines one after another say what they say.
use Rattle.std.proofs.Common.{◌≡◌, ℕ, suc, ◌+◌, Bool, true, false, ◌==◌, if◌then◌else◌, nat_lt, List, [], ◌∷◌, ◌++◌, map, length, Option, Some, None, refl, sym, ap, ◌∙◌, arith, append_assoc, length-append}
use Rattle.std.specs.List.{flat_map}
use Rattle.std.proofs.lemmas.List.{append-nil, map-append}
use Rattle.std.proofs.lemmas.Bool.{eqb-true}
use Rattle.dom_words.specs.declared.array.Array.{Array}
use Rattle.atom_traits.specs.declared.tree.Port.{Port}
use Rattle.atom_traits.specs.Form.{TreeForm}
use Rattle.banzai_config.specs.declared.parts.OpAtom.{OpAtom}
use Rattle.banzai_config.specs.declared.parts.PartSlot.{PartSlot}
use Rattle.banzai_config.specs.declared.parts.Version.{Version}
use Rattle.banzai_config.specs.Parts.{AtomForm, StageForm}
use Rattle.config_text.specs.Lines.{Line, head, target, field, array, containers, stage, op, atom, slot, out, the_end, atom_lines, stages_from, stage_lines, lines_of}
use Rattle.config_text.specs.Drafts.{Top, Slots, no_slot, last_slot, two_slots, after_slot, Draft, at_start, headed, in_fields, in_arrays, counted, in_stage, in_outputs, finished, no_stage, with_op, with_atom, one_slot, both_slots, is_none, when, begin_atom, parts, in_stage_step, slot_step, slots_step, first_step, headed_step, fields_step, arrays_step, counted_step, outputs_step, step, on_draft, steps, names_front, front_lines, draft_lines}

flat_map-append : {A B : Type 0} (f : A → List B) (xs ys : List A) → flat_map f (xs ++ ys) ≡ flat_map f xs ++ flat_map f ys
flat_map-append f [] ys = refl
flat_map-append f (x ∷ xs) ys = ap (λ l. f x ++ l) (flat_map-append f xs ys) ∙ sym (append_assoc (f x) (flat_map f xs) (flat_map f ys))

-- one stage more
stages_more : (k : ℕ) (ss : List StageForm) (s : StageForm) → stages_from k (ss ++ s ∷ []) ≡ stages_from k ss ++ stage (k + length ss) ∷ stage_lines s
stages_more k [] s = ap (λ n. stage n ∷ (stage_lines s ++ [])) (plus_zero k) ∙ ap (λ l. stage (k + 0) ∷ l) (append-nil (stage_lines s))
  where
    plus_zero : (k : ℕ) → k ≡ k + 0
    plus_zero k = omega arith
stages_more k (t ∷ ss) s =
    ap (λ l. stage k ∷ (stage_lines t ++ l)) (stages_more (k + 1) ss s ∙ ap (λ n. stages_from (k + 1) ss ++ stage n ∷ stage_lines s) (plus_suc k (length ss)))
    ∙ ap (λ l. stage k ∷ l) (sym (append_assoc (stage_lines t) (stages_from (k + 1) ss) (stage (k + suc (length ss)) ∷ stage_lines s)))
  where
    plus_suc : (k n : ℕ) → k + 1 + n ≡ k + suc n
    plus_suc k n = omega arith

front_more : (top : Top) (ss : List StageForm) (s : StageForm) → front_lines top (ss ++ s ∷ []) ≡ front_lines top ss ++ stage (1 + length ss) ∷ stage_lines s
front_more top ss s =
    ap (λ l. names_front top.version top.target top.fields top.arrays ++ containers top.containers ∷ l) (stages_more 1 ss s)
    ∙ sym (append_assoc (names_front top.version top.target top.fields top.arrays) (containers top.containers ∷ stages_from 1 ss) (stage (1 + length ss) ∷ stage_lines s))

-- one line more
abbrev Says : Draft → Line → Draft → Type 0
Says d l e = draft_lines e ≡ draft_lines d ++ l ∷ []

when_is : (b : Bool) (d e : Draft) → when b d ≡ Some e → (b ≡ true) × (d ≡ e)
when_is true d e h = (refl, cc)
when_is false d e h = absurd (cc)

some_is : (d e : Draft) → Some d ≡ Some e → d ≡ e
some_is d e h = cc

stage_ops : (s : StageForm) (a : OpAtom) → is_none s.stateful ≡ true → stage_lines (with_op s a) ≡ stage_lines s ++ op a ∷ []
stage_ops s a h = from s.stateful h
  where
    from : (as_ : List AtomForm) → is_none as_ ≡ true → map op (s.stateless ++ a ∷ []) ++ flat_map atom_lines as_ ≡ (map op s.stateless ++ flat_map atom_lines as_) ++ op a ∷ []
    from [] h = append-nil (map op (s.stateless ++ a ∷ [])) ∙ map-append op s.stateless (a ∷ []) ∙ ap (λ l. l ++ op a ∷ []) (sym (append-nil (map op s.stateless)))
    from (b ∷ more) h = absurd (cc)

stage_atoms : (s : StageForm) (a : AtomForm) → stage_lines (with_atom s a) ≡ stage_lines s ++ atom_lines a
stage_atoms s a =
    ap (λ l. map op s.stateless ++ l) (flat_map-append atom_lines s.stateful (a ∷ []) ∙ ap (λ l. flat_map atom_lines s.stateful ++ l) (append-nil (atom_lines a)))
    ∙ sym (append_assoc (map op s.stateless) (flat_map atom_lines s.stateful) (atom_lines a))

-- the current stage's lines come last
front_last : (top : Top) (done : List StageForm) (s t : StageForm) (new : List Line) → stage_lines t ≡ stage_lines s ++ new → front_lines top (done ++ t ∷ []) ≡ front_lines top (done ++ s ∷ []) ++ new
front_last top done s t new e =
    front_more top done t
    ∙ ap (λ l. front_lines top done ++ stage (1 + length done) ∷ l) e
    ∙ sym (append_assoc (front_lines top done) (stage (1 + length done) ∷ stage_lines s) new)
    ∙ ap (λ l. l ++ new) (sym (front_more top done s))

begin_says : (n : ℕ) (top : Top) (done : List StageForm) (s : StageForm) (e : Draft) → begin_atom n top done s ≡ Some e → Says (in_stage top done s no_slot) (atom n) e
begin_says n top done s e h = by_one (n == 1) refl (n == 2) refl h
  where
    by_one : (a : Bool) → (n == 1) ≡ a → (b : Bool) → (n == 2) ≡ b → (if a then Some (in_stage top done s last_slot) else (if b then Some (in_stage top done s two_slots) else None)) ≡ Some e → Says (in_stage top done s no_slot) (atom n) e
    by_one true p b q h = sym (ap draft_lines (some_is _ _ h)) ∙ ap (λ k. front_lines top (done ++ s ∷ []) ++ atom k ∷ []) (sym (eqb-true n 1 p)) ∙ ap (λ l. l ++ atom n ∷ []) (sym (append-nil (front_lines top (done ++ s ∷ []))))
    by_one false p true q h = sym (ap draft_lines (some_is _ _ h)) ∙ ap (λ k. front_lines top (done ++ s ∷ []) ++ atom k ∷ []) (sym (eqb-true n 2 q)) ∙ ap (λ l. l ++ atom n ∷ []) (sym (append-nil (front_lines top (done ++ s ∷ []))))
    by_one false p false q h = absurd (cc)

first_says : (l : Line) (e : Draft) → first_step l ≡ Some e → Says at_start l e
first_says (head v) e h = sym (ap draft_lines (some_is _ _ h))
first_says (target x) e h = absurd (cc)
first_says (field x) e h = absurd (cc)
first_says (array x) e h = absurd (cc)
first_says (containers x) e h = absurd (cc)
first_says (stage x) e h = absurd (cc)
first_says (op x) e h = absurd (cc)
first_says (atom x) e h = absurd (cc)
first_says (slot x y) e h = absurd (cc)
first_says (out x) e h = absurd (cc)
first_says the_end e h = absurd (cc)

headed_says : (v : Version) (l : Line) (e : Draft) → headed_step v l ≡ Some e → Says (headed v) l e
headed_says v (target n) e h = sym (ap draft_lines (some_is _ _ h))
headed_says v (head x) e h = absurd (cc)
headed_says v (field x) e h = absurd (cc)
headed_says v (array x) e h = absurd (cc)
headed_says v (containers x) e h = absurd (cc)
headed_says v (stage x) e h = absurd (cc)
headed_says v (op x) e h = absurd (cc)
headed_says v (atom x) e h = absurd (cc)
headed_says v (slot x y) e h = absurd (cc)
headed_says v (out x) e h = absurd (cc)
headed_says v the_end e h = absurd (cc)

fields_says : (v : Version) (t : List ℕ) (fs : List (List ℕ)) (l : Line) (e : Draft) → fields_step v t fs l ≡ Some e → Says (in_fields v t fs) l e
fields_says v t fs (field n) e h = sym (ap draft_lines (some_is _ _ h)) ∙ ap (λ m. head v ∷ target t ∷ m) (map-append field fs (n ∷ []))
fields_says v t fs (array a) e h = sym (ap draft_lines (when_is (nat_lt 0 (length fs)) (in_arrays v t fs (a ∷ [])) e h).1)
fields_says v t fs (containers n) e h =
    sym (ap draft_lines (when_is (nat_lt 0 (length fs)) (counted (record { version = v; target = t; fields = fs; arrays = []; containers = n })) e h).1)
    ∙ ap (λ m. (head v ∷ target t ∷ m) ++ containers n ∷ []) (append-nil (map field fs))
fields_says v t fs (head x) e h = absurd (cc)
fields_says v t fs (target x) e h = absurd (cc)
fields_says v t fs (stage x) e h = absurd (cc)
fields_says v t fs (op x) e h = absurd (cc)
fields_says v t fs (atom x) e h = absurd (cc)
fields_says v t fs (slot x y) e h = absurd (cc)
fields_says v t fs (out x) e h = absurd (cc)
fields_says v t fs the_end e h = absurd (cc)

arrays_says : (v : Version) (t : List ℕ) (fs : List (List ℕ)) (arrays : List Array) (l : Line) (e : Draft) → arrays_step v t fs arrays l ≡ Some e → Says (in_arrays v t fs arrays) l e
arrays_says v t fs arrays (array a) e h =
    sym (ap draft_lines (some_is _ _ h))
    ∙ ap (λ m. head v ∷ target t ∷ (map field fs ++ m)) (map-append array arrays (a ∷ []))
    ∙ ap (λ m. head v ∷ target t ∷ m) (sym (append_assoc (map field fs) (map array arrays) (array a ∷ [])))
arrays_says v t fs arrays (containers n) e h = sym (ap draft_lines (some_is _ _ h))
arrays_says v t fs arrays (head x) e h = absurd (cc)
arrays_says v t fs arrays (target x) e h = absurd (cc)
arrays_says v t fs arrays (field x) e h = absurd (cc)
arrays_says v t fs arrays (stage x) e h = absurd (cc)
arrays_says v t fs arrays (op x) e h = absurd (cc)
arrays_says v t fs arrays (atom x) e h = absurd (cc)
arrays_says v t fs arrays (slot x y) e h = absurd (cc)
arrays_says v t fs arrays (out x) e h = absurd (cc)
arrays_says v t fs arrays the_end e h = absurd (cc)

counted_says : (top : Top) (l : Line) (e : Draft) → counted_step top l ≡ Some e → Says (counted top) l e
counted_says top (stage k) e h =
    let w = when_is (k == 1) (in_stage top [] no_stage no_slot) e h in
    sym (ap draft_lines w.1) ∙ append-nil (front_lines top (no_stage ∷ [])) ∙ front_more top [] no_stage ∙ ap (λ n. front_lines top [] ++ stage n ∷ []) (sym (eqb-true k 1 w.0))
counted_says top (head x) e h = absurd (cc)
counted_says top (target x) e h = absurd (cc)
counted_says top (field x) e h = absurd (cc)
counted_says top (array x) e h = absurd (cc)
counted_says top (containers x) e h = absurd (cc)
counted_says top (op x) e h = absurd (cc)
counted_says top (atom x) e h = absurd (cc)
counted_says top (slot x y) e h = absurd (cc)
counted_says top (out x) e h = absurd (cc)
counted_says top the_end e h = absurd (cc)

stage_says : (top : Top) (done : List StageForm) (s : StageForm) (l : Line) (e : Draft) → in_stage_step top done s l ≡ Some e → Says (in_stage top done s no_slot) l e
stage_says top done s (op a) e h =
    let w = when_is (is_none s.stateful) (in_stage top done (with_op s a) no_slot) e h in
    sym (ap draft_lines w.1) ∙ append-nil (front_lines top (done ++ with_op s a ∷ [])) ∙ front_last top done s (with_op s a) (op a ∷ []) (stage_ops s a w.0) ∙ ap (λ m. m ++ op a ∷ []) (sym (append-nil (front_lines top (done ++ s ∷ []))))
stage_says top done s (atom n) e h = begin_says n top done s e h
stage_says top done s (stage k) e h =
    let w = when_is (k == length done + 2) (in_stage top (done ++ s ∷ []) no_stage no_slot) e h in
    let k2 = eqb-true k (length done + 2) w.0 in
    let n : 1 + length (done ++ s ∷ []) ≡ k = (let m = length-append done (s ∷ []) in omega arith) in
    sym (ap draft_lines w.1) ∙ append-nil (front_lines top ((done ++ s ∷ []) ++ no_stage ∷ [])) ∙ front_more top (done ++ s ∷ []) no_stage ∙ ap (λ k. front_lines top (done ++ s ∷ []) ++ stage k ∷ []) n ∙ ap (λ m. m ++ stage k ∷ []) (sym (append-nil (front_lines top (done ++ s ∷ []))))
stage_says top done s (out p) e h = sym (ap draft_lines (some_is _ _ h)) ∙ ap (λ m. m ++ out p ∷ []) (sym (append-nil (front_lines top (done ++ s ∷ []))))
stage_says top done s (head x) e h = absurd (cc)
stage_says top done s (target x) e h = absurd (cc)
stage_says top done s (field x) e h = absurd (cc)
stage_says top done s (array x) e h = absurd (cc)
stage_says top done s (containers x) e h = absurd (cc)
stage_says top done s (slot x y) e h = absurd (cc)
stage_says top done s the_end e h = absurd (cc)

slot_says : (top : Top) (done : List StageForm) (s : StageForm) (slots : Slots) (r : PartSlot) (t : TreeForm) (e : Draft) → slot_step top done s slots r t ≡ Some e → Says (in_stage top done s slots) (slot r t) e
slot_says top done s no_slot r t e h = absurd (cc)
slot_says top done s last_slot r t e h =
    sym (ap draft_lines (some_is _ _ h)) ∙ append-nil (front_lines top (done ++ with_atom s (one_slot r t) ∷ [])) ∙ front_last top done s (with_atom s (one_slot r t)) (atom 1 ∷ slot r t ∷ []) (stage_atoms s (one_slot r t)) ∙ sym (append_assoc (front_lines top (done ++ s ∷ [])) (atom 1 ∷ []) (slot r t ∷ []))
slot_says top done s two_slots r t e h = sym (ap draft_lines (some_is _ _ h)) ∙ sym (append_assoc (front_lines top (done ++ s ∷ [])) (atom 2 ∷ []) (slot r t ∷ []))
slot_says top done s (after_slot q u) r t e h =
    sym (ap draft_lines (some_is _ _ h)) ∙ append-nil (front_lines top (done ++ with_atom s (both_slots q u r t) ∷ [])) ∙ front_last top done s (with_atom s (both_slots q u r t)) (atom 2 ∷ slot q u ∷ slot r t ∷ []) (stage_atoms s (both_slots q u r t)) ∙ sym (append_assoc (front_lines top (done ++ s ∷ [])) (atom 2 ∷ slot q u ∷ []) (slot r t ∷ []))

slots_says : (top : Top) (done : List StageForm) (s : StageForm) (slots : Slots) (l : Line) (e : Draft) → slots_step top done s slots l ≡ Some e → Says (in_stage top done s slots) l e
slots_says top done s slots (slot r t) e h = slot_says top done s slots r t e h
slots_says top done s slots (head x) e h = absurd (cc)
slots_says top done s slots (target x) e h = absurd (cc)
slots_says top done s slots (field x) e h = absurd (cc)
slots_says top done s slots (array x) e h = absurd (cc)
slots_says top done s slots (containers x) e h = absurd (cc)
slots_says top done s slots (stage x) e h = absurd (cc)
slots_says top done s slots (op x) e h = absurd (cc)
slots_says top done s slots (atom x) e h = absurd (cc)
slots_says top done s slots (out x) e h = absurd (cc)
slots_says top done s slots the_end e h = absurd (cc)

whole_lines : (top : Top) (ss : List StageForm) (os : List Port) → lines_of (parts top ss os) ≡ front_lines top ss ++ (map out os ++ the_end ∷ [])
whole_lines top ss os =
    ap (λ m. head top.version ∷ target top.target ∷ m) (
    ap (λ m. map field top.fields ++ m) (sym (append_assoc (map array top.arrays) (containers top.containers ∷ stages_from 1 ss) (map out os ++ the_end ∷ [])))
    ∙ sym (append_assoc (map field top.fields) (map array top.arrays ++ containers top.containers ∷ stages_from 1 ss) (map out os ++ the_end ∷ []))
    ∙ ap (λ m. m ++ (map out os ++ the_end ∷ [])) (sym (append_assoc (map field top.fields) (map array top.arrays) (containers top.containers ∷ stages_from 1 ss)))
    )

outputs_says : (top : Top) (ss : List StageForm) (os : List Port) (l : Line) (e : Draft) → outputs_step top ss os l ≡ Some e → Says (in_outputs top ss os) l e
outputs_says top ss os (out p) e h =
    let w = when_is (nat_lt (length os) (length top.fields)) (in_outputs top ss (os ++ p ∷ [])) e h in
    sym (ap draft_lines w.1) ∙ ap (λ m. front_lines top ss ++ m) (map-append out os (p ∷ [])) ∙ sym (append_assoc (front_lines top ss) (map out os) (out p ∷ []))
outputs_says top ss os the_end e h =
    let w = when_is (length os == length top.fields) (finished (parts top ss os)) e h in
    sym (ap draft_lines w.1) ∙ whole_lines top ss os ∙ sym (append_assoc (front_lines top ss) (map out os) (the_end ∷ []))
outputs_says top ss os (head x) e h = absurd (cc)
outputs_says top ss os (target x) e h = absurd (cc)
outputs_says top ss os (field x) e h = absurd (cc)
outputs_says top ss os (array x) e h = absurd (cc)
outputs_says top ss os (containers x) e h = absurd (cc)
outputs_says top ss os (stage x) e h = absurd (cc)
outputs_says top ss os (op x) e h = absurd (cc)
outputs_says top ss os (atom x) e h = absurd (cc)
outputs_says top ss os (slot x y) e h = absurd (cc)

pub step_says : (d : Draft) (l : Line) (e : Draft) → step d l ≡ Some e → Says d l e
step_says at_start l e h = first_says l e h
step_says (headed v) l e h = headed_says v l e h
step_says (in_fields v t fs) l e h = fields_says v t fs l e h
step_says (in_arrays v t fs arrays) l e h = arrays_says v t fs arrays l e h
step_says (counted top) l e h = counted_says top l e h
step_says (in_stage top done s no_slot) l e h = stage_says top done s l e h
step_says (in_stage top done s last_slot) l e h = slots_says top done s last_slot l e h
step_says (in_stage top done s two_slots) l e h = slots_says top done s two_slots l e h
step_says (in_stage top done s (after_slot r t)) l e h = slots_says top done s (after_slot r t) l e h
step_says (in_outputs top ss os) l e h = outputs_says top ss os l e h
step_says (finished n) l e h = absurd (cc)

pub steps_say : (d : Draft) (ls : List Line) (e : Draft) → steps d ls ≡ Some e → draft_lines e ≡ draft_lines d ++ ls
steps_say d [] e h = sym (ap draft_lines (some_is _ _ h)) ∙ sym (append-nil (draft_lines d))
steps_say d (l ∷ ls) e h = by_case (step d l) refl (λ f g. steps_say f ls e g) h
  where
    by_case : (o : Option Draft) → step d l ≡ o → ((f : Draft) → steps f ls ≡ Some e → draft_lines e ≡ draft_lines f ++ ls) → on_draft o (λ f. steps f ls) ≡ Some e → draft_lines e ≡ draft_lines d ++ l ∷ ls
    by_case None p more h = absurd (cc)
    by_case (Some f) p more h = more f h ∙ ap (λ m. m ++ ls) (step_says d l f p) ∙ append_assoc (draft_lines d) (l ∷ []) ls

pub steps-append : (d : Draft) (ls ms : List Line) → steps d (ls ++ ms) ≡ on_draft (steps d ls) (λ e. steps e ms)
steps-append d [] ms = refl
steps-append d (l ∷ ls) ms = by_case (step d l) (λ f. steps-append f ls ms)
  where
    by_case : (o : Option Draft) → ((f : Draft) → steps f (ls ++ ms) ≡ on_draft (steps f ls) (λ e. steps e ms)) → on_draft o (λ f. steps f (ls ++ ms)) ≡ on_draft (on_draft o (λ f. steps f ls)) (λ e. steps e ms)
    by_case None more = refl
    by_case (Some f) more = more f
