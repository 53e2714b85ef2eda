-- Lists of steps between flanks. A read flank is the one place of a list where the word of an array is read, and a write
-- flank the one where it is written back.
use Rattle.std.specs.Prelude.{ℕ, suc, Bool, ◌&&◌, nat_lt, List, fold, map, sum, slice_index, slice_set}
use Rattle.std.specs.List.{list_all}
use Rattle.dom_words.specs.Order.{Event, reading, writing, working, are_ordered}
use Rattle.dom_words.specs.State.{Hash, Outcome, fetched, stored}
use Rattle.dom_ast.specs.declared.part.Goal.{Goal}
use Rattle.dom_ast.specs.declared.part.Goal.TheVariants as goal
use Rattle.dom_ast.specs.declared.part.Place.{Place}
use Rattle.dom_ast.specs.declared.flanks.FlankItem.{FlankItem}
use Rattle.dom_ast.specs.declared.flanks.FlankItem.TheVariants as item
use Rattle.dom_ast.specs.Kept.{Mention, Ranges, is_same_place, place_within, visit_mentions, visit_within}
use Rattle.dom_ast.specs.Meaning.{Names, place_word, put, value}
use Rattle.dom_ast.specs.PartSize.{part_nodes}
use Rattle.dom_ast.specs.Straight.{StepForm, step_form, step_visit}

-- a read flank of an array at an index, a step, or a write flank of an array at an index
pub data FlankForm : Type 0 where
  read : ℕ → Place → FlankForm
  set : StepForm → FlankForm
  write : ℕ → Place → FlankForm

-- such an item as plain data
abbrev pub flank_form : FlankItem → FlankForm
flank_form (item.Read a i) = read a i
flank_form (item.Set s) = set (step_form s)
flank_form (item.Write a i) = write a i

-- every number is in range
abbrev pub flank_within : Ranges → FlankForm → Bool
flank_within r (read a i) = nat_lt a r.arrays && place_within r i
flank_within r (set s) = visit_within r (step_visit s)
flank_within r (write a i) = nat_lt a r.arrays && place_within r i

-- the same of all items
abbrev pub flanks_within : Ranges → List FlankForm → Bool
flanks_within r items = list_all (flank_within r) items

-- what an item is to the arrays; a step works on the words of the arrays that it mentions
abbrev pub flank_event : FlankForm → Event Place
flank_event (read a i) = reading a i
flank_event (set s) = working (visit_mentions (step_visit s))
flank_event (write a i) = writing a i

-- after these read and write flanks: no array is read twice or written twice, each mention of an array stands after its
-- read flank, and a write flank stands after it too and has its index
abbrev pub are_flanked : List Mention → List ℕ → List FlankForm → Bool
are_flanked reads writes items = are_ordered is_same_place reads writes (map flank_event items)

-- the packet, the state and the fresh names; and of each array the word that steps work on, and the index at which it was read
pub record FlankEnv : Type 0 where
  pub packet : List ℕ
  pub arrays : List (List ℕ)
  pub fresh : ℕ → ℕ
  pub words : ℕ → ℕ
  pub found : ℕ → ℕ

-- what names stand for: an array is the word that steps work on, whatever the index, and there are no made values
abbrev pub flank_names : FlankEnv → Names
flank_names env = record { field = slice_index env.packet; state = λ a i. env.words a; fresh = env.fresh; made = λ k. 0 }

-- a target gets a word
abbrev pub flank_assigned : Goal → ℕ → FlankEnv → FlankEnv
flank_assigned (goal.Field f) word env = record env { packet = slice_set env.packet f word }
flank_assigned (goal.State a i) word env = record env { words = put a word env.words }
flank_assigned (goal.Fresh k) word env = record env { fresh = put k word env.fresh }

-- a read flank copies the element into the array's word, steps use that word, and a write flank copies it back to the index
-- that the read flank found
abbrev pub flanked : Hash → FlankEnv → FlankForm → FlankEnv
flanked hash env (read a i) =
    record env { words = put a (fetched env.arrays a (place_word i env.packet)) env.words; found = put a (place_word i env.packet) env.found }
flanked hash env (set s) = flank_assigned s.target (value hash (flank_names env) s.value) env
flanked hash env (write a i) = record env { arrays = stored env.arrays a (env.found a) (env.words a) }

-- the items one after another
abbrev pub all_flanked : Hash → FlankEnv → List FlankForm → FlankEnv
all_flanked hash env items = fold (flanked hash) env items

-- a packet and a state as they enter; all else is 0
abbrev pub flank_entering : List ℕ → List (List ℕ) → FlankEnv
flank_entering packet arrays = record { packet = packet; arrays = arrays; fresh = λ k. 0; words = λ k. 0; found = λ k. 0 }

-- the packet and the state at the end
abbrev pub flank_outcome_of : FlankEnv → Outcome
flank_outcome_of env = record { packet = env.packet; arrays = env.arrays }

-- what items make of a packet and a state
abbrev pub flanked_outcome : Hash → List FlankForm → List ℕ → List (List ℕ) → Outcome
flanked_outcome hash items packet arrays = flank_outcome_of (all_flanked hash (flank_entering packet arrays) items)

-- an item and the expression nodes in it
abbrev pub flank_nodes : FlankForm → ℕ
flank_nodes (read a i) = 1
flank_nodes (set s) = suc (part_nodes s.value)
flank_nodes (write a i) = 1

-- the items and the expression nodes in them
abbrev pub flanks_nodes : List FlankForm → ℕ
flanks_nodes items = sum (map flank_nodes items)
