-- What the laws say of a queue that serves by rank, alone and behind a machine.
use Rattle.std.specs.Prelude.{◌≡◌, ℕ, ◌<◌, false, true, int_lt, None, Some, List, [], ◌∷◌, ◌++◌, map, slice_index_or}
use Rattle.std.specs.List.{AllByRecursion}
use Rattle.banzai_config.specs.Action.{Entry}
use Rattle.banzai_machine.specs.Alone.{packets_of}
use Rattle.pifo_rank.specs.Queue.{Held, rest, served}
use Rattle.pifo_rank.specs.Run.{Turn, held_after}

-- an entry among others: those that came before it have a greater rank, and those that came after it have no lesser one
pub record IsFirstOfLeast (entries : List Held) (e : Held) (others : List Held) : Type 0 where
  pub before : List Held
  pub after : List Held
  pub entries_are : entries ≡ before ++ e ∷ after
  pub others_are : others ≡ before ++ after
  pub greater : AllByRecursion (λ b. int_lt e.rank b.rank ≡ true) before
  pub no_lesser : AllByRecursion (λ a. int_lt a.rank e.rank ≡ false) after

-- what is served is the first of the least rank, and the others stay; nothing is served exactly where nothing is held
abbrev pub ServesFirstOfLeast : List Held → Type 0
ServesFirstOfLeast [] = (served [] ≡ None) × (rest [] ≡ [])
ServesFirstOfLeast (e ∷ entries) = (first : Held) × (served (e ∷ entries) ≡ Some first) × IsFirstOfLeast (e ∷ entries) first (rest (e ∷ entries))

-- the packets that were dropped and served over these cycles, and those that are held after them
abbrev pub packets_in : List Held → List Turn → List (List ℕ)
packets_in held turns =
    packets_of (map (λ t. t.dropped) turns) ++ (packets_of (map (λ t. t.served) turns) ++ map (λ e. e.words) (held_after held turns))

-- the first k registers hold no packet
abbrev pub AreEmpty : ℕ → List Entry → Type 0
AreEmpty k registers = (j : ℕ) → j < k → slice_index_or registers j None ≡ None
