-- A queue that serves by rank, as the packets that it holds in order of arrival.
use Rattle.std.specs.Prelude.{ℕ, ◌+◌, ℤ, Bool, not, int_lt, Option, List, [], ◌∷◌, ◌++◌, slice_get}
use Rattle.std.specs.List.{list_all, position_or_len, remove}
use Rattle.std.specs.Option.{option_map, unwrap_or}

-- a packet that is held, and the rank by which it is served
pub record Held : Type 0 where
  pub rank : ℤ
  pub words : List ℕ

-- what is held in order of arrival, how many packets were taken in, how many may be held, and how many words each has
pub record Queue : Type 0 where
  pub entries : List Held
  pub pushes : ℕ
  pub room : ℕ
  pub width : ℕ

-- no entry has a lesser rank
abbrev pub is_least : List Held → Held → Bool
is_least entries e = list_all (λ other. not (int_lt other.rank e.rank)) entries

-- the place of the first entry with the least rank
abbrev pub head : List Held → ℕ
head entries = position_or_len (is_least entries) entries

-- the entry that is served, and those that stay
abbrev pub served : List Held → Option Held
served entries = slice_get entries (head entries)

abbrev pub rest : List Held → List Held
rest entries = remove entries (head entries)

-- what a pop tells: the rank, and the words, which are the old ones where nothing is served
abbrev pub rank_served : List Held → Option ℤ
rank_served entries = option_map (λ e. e.rank) (served entries)

abbrev pub words_served : List Held → List ℕ → List ℕ
words_served entries old = unwrap_or (option_map (λ e. e.words) (served entries)) old

-- the queue after one more entry, and after one was served
abbrev pub pushed : Queue → ℤ → List ℕ → Queue
pushed q rank words = record q { entries = q.entries ++ record { rank = rank; words = words } ∷ []; pushes = q.pushes + 1 }

abbrev pub popped : Queue → Queue
popped q = record q { entries = rest q.entries }
