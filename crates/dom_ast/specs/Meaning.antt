-- What a program does to a packet and to the state.
use Rattle.std.specs.Prelude.{ℕ, ◌==◌, Bool, true, List, [], ◌∷◌, fold, Option, Some, None, if◌then◌else◌, slice_index, slice_set}
use Rattle.std.specs.List.{filter}
use Rattle.dom_words.specs.Operators.{bin_word, chosen, is_true, un_word}
use Rattle.dom_words.specs.State.{Hash, Outcome, fetched, started, stored}
use Rattle.dom_ast.specs.declared.part.Place.{Place}
use Rattle.dom_ast.specs.declared.part.Place.TheVariants as place
use Rattle.dom_ast.specs.declared.part.Goal.{Goal}
use Rattle.dom_ast.specs.declared.part.Goal.TheVariants as goal
use Rattle.dom_ast.specs.Resolved.{PartForm, number, field, state, fresh, made, call, un, chain, choice, PartForms, no_parts, part, OpForms, no_ops, op, ActForm, assign, branch, ActForms, no_acts, act, BodyForm, CheckedForm}

-- What the names in an expression stand for: the fields, the arrays at an index, the fresh names and the made values. The
-- last two come with the passes of the compiler.
pub record Names : Type 0 where
  pub field : ℕ → ℕ
  pub state : ℕ → Place → ℕ
  pub fresh : ℕ → ℕ
  pub made : ℕ → ℕ

-- the word of an expression; a chain is folded from the left
abbrev mutual
  pub value : Hash → Names → PartForm → ℕ
  value hash names (number w) = w
  value hash names (field f) = names.field f
  value hash names (state a i) = names.state a i
  value hash names (fresh k) = names.fresh k
  value hash names (made k) = names.made k
  value hash names (call unit ps) = hash unit (values hash names ps)
  value hash names (un o p) = un_word o (value hash names p)
  value hash names (chain p os) = folded hash names (value hash names p) os
  value hash names (choice c p q) = chosen (value hash names c) (value hash names p) (value hash names q)

  pub values : Hash → Names → PartForms → List ℕ
  values hash names no_parts = []
  values hash names (part p ps) = value hash names p ∷ values hash names ps

  pub folded : Hash → Names → ℕ → OpForms → ℕ
  folded hash names word no_ops = word
  folded hash names word (op o p os) = folded hash names (bin_word o word (value hash names p)) os

-- the packet's words, the words of each array, and fresh names
pub record Env : Type 0 where
  pub packet : List ℕ
  pub arrays : List (List ℕ)
  pub fresh : ℕ → ℕ

-- the index itself: a word, or what a field of the packet has
abbrev pub place_word : Place → List ℕ → ℕ
place_word (place.Word w) packet = w
place_word (place.Field f) packet = slice_index packet f

-- the names as they stand in a moment, when there are no made values
abbrev pub names_in : Env → Names
names_in env = record {
  field = slice_index env.packet;
  state = λ a i. fetched env.arrays a (place_word i env.packet);
  fresh = env.fresh;
  made = λ k. 0;
}

-- the word of an expression in a moment
abbrev pub value_in : Hash → Env → PartForm → ℕ
value_in hash env p = value hash (names_in env) p

-- the function with another answer at one number
abbrev pub put : ℕ → ℕ → (ℕ → ℕ) → ℕ → ℕ
put k word names j = if j == k then word else names j

-- a target gets a word
abbrev pub assigned : Goal → ℕ → Env → Env
assigned (goal.Field f) word env = record env { packet = slice_set env.packet f word }
assigned (goal.State a i) word env = record env { arrays = stored env.arrays a (place_word i env.packet) word }
assigned (goal.Fresh k) word env = record env { fresh = put k word env.fresh }

-- what statements do; an `if` does the one branch that its condition chooses
abbrev mutual
  pub acted : Hash → ActForm → Env → Env
  acted hash (assign g p) env = assigned g (value_in hash env p) env
  acted hash (branch c a b) env = if is_true (value_in hash env c) then all_acted hash a env else all_acted hash b env

  pub all_acted : Hash → ActForms → Env → Env
  all_acted hash no_acts env = env
  all_acted hash (act a rest) env = all_acted hash rest (acted hash a env)

-- a guard holds where it is not 0, and so does one that is not there
abbrev pub is_guard_true : Hash → Env → Option PartForm → Bool
is_guard_true hash env None = true
is_guard_true hash env (Some p) = is_true (value_in hash env p)

-- a transaction is chosen where its guard holds
abbrev pub is_chosen : Hash → Env → BodyForm → Bool
is_chosen hash env body = is_guard_true hash env body.guard

-- a packet and a state, with fresh names that are 0
abbrev pub entering : List ℕ → List (List ℕ) → Env
entering packet arrays = record { packet = packet; arrays = arrays; fresh = λ k. 0 }

-- the packet and the state at the end
abbrev pub outcome_of : Env → Outcome
outcome_of env = record { packet = env.packet; arrays = env.arrays }

-- all guards are tested as the packet enters; then the chosen transactions run in order
abbrev pub all_chosen : Hash → List BodyForm → Env → Env
all_chosen hash bodies env = fold (λ now body. all_acted hash body.acts now) env (filter (is_chosen hash env) bodies)

-- what transactions make of one packet and a state
abbrev pub one_packet : Hash → List BodyForm → List ℕ → List (List ℕ) → Outcome
one_packet hash bodies packet arrays = outcome_of (all_chosen hash bodies (entering packet arrays))

-- one packet after another, from a state: the packets that come out
abbrev pub serial_packets : Hash → List BodyForm → List (List ℕ) → List (List ℕ) → List (List ℕ)
serial_packets hash bodies arrays [] = []
serial_packets hash bodies arrays (p ∷ ps) =
    (one_packet hash bodies p arrays).packet ∷ serial_packets hash bodies (one_packet hash bodies p arrays).arrays ps

-- the state behind the last of them
abbrev pub serial_arrays : Hash → List BodyForm → List (List ℕ) → List (List ℕ) → List (List ℕ)
serial_arrays hash bodies arrays [] = arrays
serial_arrays hash bodies arrays (p ∷ ps) = serial_arrays hash bodies (one_packet hash bodies p arrays).arrays ps

-- what a serial run gives: the packets that come out, in order, and the state at the end
pub record SerialOutcome : Type 0 where
  pub packets : List (List ℕ)
  pub arrays : List (List ℕ)

-- the serial run of a program over packets, from the words that its arrays start with
abbrev pub serial_run : Hash → CheckedForm → List (List ℕ) → SerialOutcome
serial_run hash program packets =
    let start = started program.arrays in
    record { packets = serial_packets hash program.bodies start packets; arrays = serial_arrays hash program.bodies start packets }
