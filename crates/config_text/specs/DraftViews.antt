-- Drafts, apart from where they lie in memory.
use Rattle.std.specs.Prelude.{ℕ, List, map}
use Rattle.atom_traits.specs.Form.{form}
use Rattle.banzai_config.specs.declared.parts.Parts.{Parts}
use Rattle.banzai_config.specs.Parts.{stage_form, parts_form}
use Rattle.config_text.specs.declared.draft.Draft as rust_draft
use Rattle.config_text.specs.declared.draft.Place.{Place}
use Rattle.config_text.specs.declared.draft.Place.TheVariants.{Start, Headed, Fields, Arrays, Counted, Stage, OneSlot, TwoSlots, SecondSlot, Outputs, Finished}
use Rattle.config_text.specs.Lines.{NamedParts}
use Rattle.config_text.specs.Drafts.{Top, Slots, no_slot, last_slot, two_slots, after_slot, Draft, at_start, headed, in_fields, in_arrays, counted, in_stage, in_outputs, finished, parts}

abbrev pub top_form : rust_draft.Draft → Top
top_form d = record { version = d.version; target = d.target; fields = d.fields; arrays = d.arrays; containers = d.containers }

abbrev pub stage_draft : rust_draft.Draft → Slots → Draft
stage_draft d slots = in_stage (top_form d) (map stage_form d.stages) (stage_form d.stage) slots

-- a draft by its place, which tells what of it has a meaning
abbrev pub draft_at : Place → rust_draft.Draft → Draft
draft_at Start d = at_start
draft_at Headed d = headed d.version
draft_at Fields d = in_fields d.version d.target d.fields
draft_at Arrays d = in_arrays d.version d.target d.fields d.arrays
draft_at Counted d = counted (top_form d)
draft_at Stage d = stage_draft d no_slot
draft_at OneSlot d = stage_draft d last_slot
draft_at TwoSlots d = stage_draft d two_slots
draft_at SecondSlot d = stage_draft d (after_slot d.slot (form d.tree))
draft_at Outputs d = in_outputs (top_form d) (map stage_form d.stages) d.outputs
draft_at Finished d = finished (parts (top_form d) (map stage_form d.stages) d.outputs)

abbrev pub draft_form : rust_draft.Draft → Draft
draft_form d = draft_at d.place d

-- the name of a target and a configuration
abbrev pub named_form : List ℕ × Parts → NamedParts
named_form r = record { target = r.0; parts = parts_form r.1 }
