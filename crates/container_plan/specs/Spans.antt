-- Values that are live between two stages, and the containers that they take in turn.
use Rattle.std.specs.Prelude.{ℕ, zero, suc, max, Bool, ◌&&◌, nat_eq, nat_le, List, [], ◌∷◌, length, map, filter, fold, flat_map, if◌then◌else◌}
use Rattle.std.specs.List.{range_with_len}
use Rattle.banzai_config.specs.Legal.{has}

abbrev pub greatest : List ℕ → ℕ
greatest [] = 0
greatest (n ∷ ns) = max n (greatest ns)

-- the first of n numbers from c on that a list does not have
abbrev pub free_from : ℕ → List ℕ → ℕ → ℕ
free_from zero cs c = c
free_from (suc n) cs c = if has c cs then free_from n cs (suc c) else c

-- the least number that a list does not have
abbrev pub least_free : List ℕ → ℕ
least_free cs = free_from (length cs) cs 0

-- a value with the container that it took
pub record Taken : Type 0 where
  pub value : ℕ
  pub container : ℕ

-- the container that a value took
abbrev pub container_in : List Taken → ℕ → ℕ
container_in [] v = 0
container_in (t ∷ ts) v = if nat_eq t.value v then t.container else container_in ts v

-- one more than the greatest container that was taken
abbrev pub number_in : List Taken → ℕ
number_in done = greatest (map (λ (t : Taken). suc t.container) done)

-- made: the stage at which a value is made
module _ (made : ℕ → ℕ) where
  -- the values that are made at one of the stages before a bound, by stage and then by number; numbers: all candidates in order
  abbrev pub order : List ℕ → ℕ → List ℕ
  order numbers stages = flat_map (λ k. filter (λ v. nat_eq (made v) k) numbers) (range_with_len 0 stages)

-- made, last: the stage at which a value is made, and its last stage
module _ (made last : ℕ → ℕ) where
  -- both stages counted
  abbrev pub is_live : ℕ → ℕ → Bool
  is_live k v = nat_le (made v) k && nat_le k (last v)

  -- the containers of the values taken before that are still live at stage k
  abbrev pub held : ℕ → List Taken → List ℕ
  held k done = map (λ (t : Taken). t.container) (filter (λ (t : Taken). nat_le k (last t.value)) done)

  -- the next value takes the least container that no value taken before and still live has
  abbrev pub take_next : List Taken → ℕ → List Taken
  take_next done v = record { value = v; container = least_free (held (made v) done) } ∷ done

  abbrev pub taken : List ℕ → List Taken
  taken values = fold take_next [] values

  -- how many values are live at stage k
  abbrev pub live_count : List ℕ → ℕ → ℕ
  live_count values k = length (filter (is_live k) values)
