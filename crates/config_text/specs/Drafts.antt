-- Lines one after another.
use Rattle.std.specs.Prelude.{ℕ, ◌+◌, Bool, true, false, ◌==◌, if◌then◌else◌, List, [], ◌∷◌, ◌++◌, map, length, Option, Some, None, nat_lt}
use Rattle.dom_words.specs.declared.array.Array.{Array}
use Rattle.atom_traits.specs.declared.tree.Port.{Port}
use Rattle.atom_traits.specs.Form.{TreeForm}
use Rattle.banzai_config.specs.declared.parts.OpAtom.{OpAtom}
use Rattle.banzai_config.specs.declared.parts.PartSlot.{PartSlot}
use Rattle.banzai_config.specs.declared.parts.Version.{Version}
use Rattle.banzai_config.specs.Parts.{AtomForm, StageForm}
use Rattle.config_text.specs.Lines.{Line, head, target, field, array, containers, stage, op, atom, slot, out, the_end, stages_from, lines_of, NamedParts}

-- what stands before the stages
pub record Top : Type 0 where
  pub version : Version
  pub target : List ℕ
  pub fields : List (List ℕ)
  pub arrays : List Array
  pub containers : ℕ

-- slots that are still to come
pub data Slots : Type 0 where
  no_slot : Slots
  last_slot : Slots
  two_slots : Slots
  after_slot : PartSlot → TreeForm → Slots

-- what lines have said so far
pub data Draft : Type 0 where
  at_start : Draft
  headed : Version → Draft
  in_fields : Version → List ℕ → List (List ℕ) → Draft
  in_arrays : Version → List ℕ → List (List ℕ) → List Array → Draft
  counted : Top → Draft
  in_stage : Top → List StageForm → StageForm → Slots → Draft
  in_outputs : Top → List StageForm → List Port → Draft
  finished : NamedParts → Draft

abbrev pub no_stage : StageForm
no_stage = record { stateless = []; stateful = [] }

abbrev pub with_op : StageForm → OpAtom → StageForm
with_op s a = record { stateless = s.stateless ++ a ∷ []; stateful = s.stateful }

abbrev pub with_atom : StageForm → AtomForm → StageForm
with_atom s a = record { stateless = s.stateless; stateful = s.stateful ++ a ∷ [] }

abbrev pub one_slot : PartSlot → TreeForm → AtomForm
one_slot s t = record { slots = s ∷ []; trees = record { first = t; second = None } }

abbrev pub both_slots : PartSlot → TreeForm → PartSlot → TreeForm → AtomForm
both_slots s t r u = record { slots = s ∷ r ∷ []; trees = record { first = t; second = Some u } }

abbrev pub is_none : List AtomForm → Bool
is_none [] = true
is_none (a ∷ more) = false

abbrev pub when : Bool → Draft → Option Draft
when true d = Some d
when false d = None

abbrev pub begin_atom : ℕ → Top → List StageForm → StageForm → Option Draft
begin_atom n top done s = if n == 1 then Some (in_stage top done s last_slot) else (if n == 2 then Some (in_stage top done s two_slots) else None)

abbrev pub parts : Top → List StageForm → List Port → NamedParts
parts top ss os = record {
  target = top.target;
  parts = record { version = top.version; fields = top.fields; arrays = top.arrays; containers = top.containers; stages = ss; outputs = os };
}

abbrev pub in_stage_step : Top → List StageForm → StageForm → Line → Option Draft
in_stage_step top done s (op a) = when (is_none s.stateful) (in_stage top done (with_op s a) no_slot)
in_stage_step top done s (atom n) = begin_atom n top done s
in_stage_step top done s (stage k) = when (k == length done + 2) (in_stage top (done ++ s ∷ []) no_stage no_slot)
in_stage_step top done s (out p) = Some (in_outputs top (done ++ s ∷ []) (p ∷ []))
in_stage_step top done s (head v) = None
in_stage_step top done s (target n) = None
in_stage_step top done s (field n) = None
in_stage_step top done s (array a) = None
in_stage_step top done s (containers n) = None
in_stage_step top done s (slot r t) = None
in_stage_step top done s the_end = None

abbrev pub slot_step : Top → List StageForm → StageForm → Slots → PartSlot → TreeForm → Option Draft
slot_step top done s no_slot r t = None
slot_step top done s last_slot r t = Some (in_stage top done (with_atom s (one_slot r t)) no_slot)
slot_step top done s two_slots r t = Some (in_stage top done s (after_slot r t))
slot_step top done s (after_slot q u) r t = Some (in_stage top done (with_atom s (both_slots q u r t)) no_slot)

abbrev pub slots_step : Top → List StageForm → StageForm → Slots → Line → Option Draft
slots_step top done s slots (slot r t) = slot_step top done s slots r t
slots_step top done s slots (head v) = None
slots_step top done s slots (target n) = None
slots_step top done s slots (field n) = None
slots_step top done s slots (array a) = None
slots_step top done s slots (containers n) = None
slots_step top done s slots (stage k) = None
slots_step top done s slots (op a) = None
slots_step top done s slots (atom n) = None
slots_step top done s slots (out p) = None
slots_step top done s slots the_end = None

abbrev pub first_step : Line → Option Draft
first_step (head v) = Some (headed v)
first_step _ = None

abbrev pub headed_step : Version → Line → Option Draft
headed_step v (target n) = Some (in_fields v n [])
headed_step v _ = None

abbrev pub fields_step : Version → List ℕ → List (List ℕ) → Line → Option Draft
fields_step v t fs (field n) = Some (in_fields v t (fs ++ n ∷ []))
fields_step v t fs (array a) = when (nat_lt 0 (length fs)) (in_arrays v t fs (a ∷ []))
fields_step v t fs (containers c) = when (nat_lt 0 (length fs)) (counted (record { version = v; target = t; fields = fs; arrays = []; containers = c }))
fields_step v t fs _ = None

abbrev pub arrays_step : Version → List ℕ → List (List ℕ) → List Array → Line → Option Draft
arrays_step v t fs arrays (array a) = Some (in_arrays v t fs (arrays ++ a ∷ []))
arrays_step v t fs arrays (containers c) = Some (counted (record { version = v; target = t; fields = fs; arrays = arrays; containers = c }))
arrays_step v t fs arrays _ = None

abbrev pub counted_step : Top → Line → Option Draft
counted_step top (stage k) = when (k == 1) (in_stage top [] no_stage no_slot)
counted_step top _ = None

abbrev pub outputs_step : Top → List StageForm → List Port → Line → Option Draft
outputs_step top ss os (out p) = when (nat_lt (length os) (length top.fields)) (in_outputs top ss (os ++ p ∷ []))
outputs_step top ss os the_end = when (length os == length top.fields) (finished (parts top ss os))
outputs_step top ss os _ = None

-- what one more line says, where it may stand
abbrev pub step : Draft → Line → Option Draft
step at_start l = first_step l
step (headed v) l = headed_step v l
step (in_fields v t fs) l = fields_step v t fs l
step (in_arrays v t fs arrays) l = arrays_step v t fs arrays l
step (counted top) l = counted_step top l
step (in_stage top done s no_slot) l = in_stage_step top done s l
step (in_stage top done s last_slot) l = slots_step top done s last_slot l
step (in_stage top done s two_slots) l = slots_step top done s two_slots l
step (in_stage top done s (after_slot r t)) l = slots_step top done s (after_slot r t) l
step (in_outputs top ss os) l = outputs_step top ss os l
step (finished n) l = None

abbrev pub on_draft : Option Draft → (Draft → Option Draft) → Option Draft
on_draft None go = None
on_draft (Some d) go = go d

abbrev pub steps : Draft → List Line → Option Draft
steps d [] = Some d
steps d (l ∷ ls) = on_draft (step d l) (λ e. steps e ls)

-- the lines of a draft
abbrev pub slot_front : Slots → List Line
slot_front no_slot = []
slot_front last_slot = atom 1 ∷ []
slot_front two_slots = atom 2 ∷ []
slot_front (after_slot r t) = atom 2 ∷ slot r t ∷ []

-- the lines before those of the containers
abbrev pub names_front : Version → List ℕ → List (List ℕ) → List Array → List Line
names_front v t fs arrays = head v ∷ target t ∷ (map field fs ++ map array arrays)

abbrev pub front_lines : Top → List StageForm → List Line
front_lines top ss = names_front top.version top.target top.fields top.arrays ++ containers top.containers ∷ stages_from 1 ss

abbrev pub draft_lines : Draft → List Line
draft_lines at_start = []
draft_lines (headed v) = head v ∷ []
draft_lines (in_fields v t fs) = head v ∷ target t ∷ map field fs
draft_lines (in_arrays v t fs arrays) = names_front v t fs arrays
draft_lines (counted top) = front_lines top []
draft_lines (in_stage top done s slots) = front_lines top (done ++ s ∷ []) ++ slot_front slots
draft_lines (in_outputs top ss os) = front_lines top ss ++ map out os
draft_lines (finished n) = lines_of n
