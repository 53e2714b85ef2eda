-- The order of flanks in a list: an array is read once, before all that works on its word, and written back once, after its
-- read and at the index of that. What stands for an index is not the same in every list: `same` says when two indexes are.
use Rattle.std.specs.Prelude.{ℕ, Bool, true, not, ◌&&◌, nat_eq, List, [], ◌∷◌}
use Rattle.std.specs.List.{list_all, list_any}

-- an array, with an index
pub record Access (Index : Type 0) : Type 0 where
  pub array : ℕ
  pub index : Index

-- what an item of a list is to the arrays: their read flank of one at an index, their write flank of one at an index, or
-- work on the words of these
pub data Event (Index : Type 0) : Type 0 where
  reading : ℕ → Index → Event Index
  writing : ℕ → Index → Event Index
  working : List (Access Index) → Event Index

-- the array is among these that were read
abbrev pub is_read : {Index : Type 0} → List (Access Index) → ℕ → Bool
is_read reads a = list_any (λ r. nat_eq r.array a) reads

-- the array is among these that were written
abbrev pub is_written : List ℕ → ℕ → Bool
is_written writes a = list_any (nat_eq a) writes

-- the reads and the writes after an event
abbrev pub reads_after : {Index : Type 0} → Event Index → List (Access Index) → List (Access Index)
reads_after (reading a i) reads = record { array = a; index = i } ∷ reads
reads_after (writing a i) reads = reads
reads_after (working as_) reads = reads

abbrev pub writes_after : {Index : Type 0} → Event Index → List ℕ → List ℕ
writes_after (reading a i) writes = writes
writes_after (writing a i) writes = a ∷ writes
writes_after (working as_) writes = writes

module _ {Index : Type 0} (same : Index → Index → Bool) where
  -- the array was read at this index
  abbrev pub is_read_at : List (Access Index) → ℕ → Index → Bool
  is_read_at reads a i = list_any (λ r. nat_eq r.array a && same r.index i) reads

  -- an event may stand after these reads and writes
  abbrev pub may_stand : List (Access Index) → List ℕ → Event Index → Bool
  may_stand reads writes (reading a i) = not (is_read reads a)
  may_stand reads writes (writing a i) = is_read_at reads a i && not (is_written writes a)
  may_stand reads writes (working as_) = list_all (λ m. is_read reads m.array) as_

  -- after these reads and writes, each event may stand where it does
  abbrev pub are_ordered : List (Access Index) → List ℕ → List (Event Index) → Bool
  are_ordered reads writes [] = true
  are_ordered reads writes (e ∷ events) =
      may_stand reads writes e && are_ordered (reads_after e reads) (writes_after e writes) events
