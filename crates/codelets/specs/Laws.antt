-- What holds of codelets.
use Rattle.std.specs.Prelude.{◌≡◌, ℕ, ◌+◌, ◌*◌, ◌<◌, ◌≤◌, true, false, List, [], ◌∷◌, Option, Some, None, length, map, slice_get, ◌⊎◌}
use Rattle.std.specs.List.{flat_map}
use Rattle.dom_words.specs.State.{Hash}
use Rattle.dom_flat.specs.declared.line.Operand.{Operand}
use Rattle.dom_flat.specs.declared.line.Operand.TheVariants.{Const, Value}
use Rattle.dom_flat.specs.declared.line.Line.{Line}
use Rattle.dom_flat.specs.declared.line.Line.TheVariants as line
use Rattle.dom_flat.specs.Lines.{is_flank, operands_of, stores_to}
use Rattle.dom_flat.specs.Meaning.{line_word, HoldTogether}
use Rattle.codelets.specs.Lists.{AreApart, AreDistinct, IsIn}
use Rattle.codelets.specs.Linked.{Linked, count}
use Rattle.codelets.specs.Cut.{cut, has_flank, in_order, level, line_of, outer, seen_by, uses_codelet}
use Rattle.codelets.specs.Held.{Held, exports, held}
use Rattle.codelets.specs.Containers.{container, containers, holder, holders, place}
use Rattle.codelets.specs.Extended.{extended}

-- what a Stateless codelet is: one number, whose statement is there and is no flank
pub record IsSingle (P : Linked) (c : List ℕ) : Type 0 where
  pub number : ℕ
  pub only : c ≡ number ∷ []
  pub its : Line
  pub there : line_of (cut P) number ≡ Some its
  pub plain : is_flank its ≡ false

module _ (P : Linked) where
  -- where an operand of codelet c comes from: it is a constant, a field, a value of c, or one that a codelet which c uses exports
  pub data Source (c : List ℕ) : Operand → Type 0 where
    OfConst : {o : Operand} (w : ℕ) → o ≡ Const w → Source c o
    OfField : {o : Operand} (v : ℕ) → o ≡ Value v → v < P.fields → Source c o
    Own : {o : Operand} (a : ℕ) → o ≡ Value (P.fields + a) → IsIn a c → Source c o
    Other : {o : Operand} (d : List ℕ) (v : ℕ) → o ≡ Value v → IsIn d (cut P).all → uses_codelet (cut P) c d ≡ true → IsIn v (exports (cut P) d) → Source c o

  -- an output is a constant, a field, or a value that a codelet exports
  pub data Shown : Operand → Type 0 where
    ShownConst : {o : Operand} (w : ℕ) → o ≡ Const w → Shown o
    ShownField : {o : Operand} (v : ℕ) → o ≡ Value v → v < P.fields → Shown o
    ShownValue : {o : Operand} (d : List ℕ) (v : ℕ) → o ≡ Value v → IsIn d (cut P).all → IsIn v (exports (cut P) d) → Shown o

  -- what a write flank of an array stores; None where no statement writes the array
  abbrev pub WriteOf : ℕ → Operand → Option Operand → Type 0
  WriteOf array i None = (j : ℕ) (l : Line) → slice_get P.lines j ≡ Some l → stores_to array l ≡ false
  WriteOf array i (Some o) = (j : ℕ) × (v : Operand) × (slice_get P.lines j ≡ Some (line.Store array i v)) × (o ≡ seen_by (cut P) j v)

  abbrev pub OldOf : Option ℕ → ℕ → Type 0
  OldOf None read = Unit {0}
  OldOf (Some v) read = v ≡ read

  abbrev pub NewOf : Option ℕ → Option Operand → Type 0
  NewOf None w = Unit {0}
  NewOf (Some v) w = w ≡ Some (Value v)

  -- an array of a codelet has the flanks of that array
  pub record SlotOf (c : List ℕ) (h : Held) : Type 0 where
    pub at : ℕ
    pub index_of : Operand
    pub inside : IsIn at c
    pub fetch : slice_get P.lines at ≡ Some (line.Fetch h.array index_of)
    pub reads : h.read ≡ P.fields + at
    pub port : h.index ≡ seen_by (cut P) at index_of
    pub writes : WriteOf h.array index_of h.write
    pub olds : OldOf h.old h.read
    pub news : NewOf h.new h.write

  -- a codelet holds an array with this read value
  abbrev pub IsHeldAt : ℕ → ℕ → Type 0
  IsHeldAt array read = (c : List ℕ) × (h : Held) × IsIn c (cut P).all × IsIn h (held (cut P) c) × (h.array ≡ array) × (h.read ≡ read)

  -- a codelet holds an array and stores this operand to it
  abbrev pub IsWrittenAs : ℕ → Operand → Type 0
  IsWrittenAs array o = (c : List ℕ) × (h : Held) × IsIn c (cut P).all × IsIn h (held (cut P) c) × (h.array ≡ array) × (h.write ≡ Some o)

  -- its value has a container, and the container that value
  pub record IsPlaced (v : ℕ) : Type 0 where
    pub there : container (cut P) v ≡ Some (place (cut P) v)
    pub back : holder (cut P) (place (cut P) v) ≡ v
    pub within : place (cut P) v < containers (cut P)

  -- the laws
  pub record CodeletLaws : Type 0 where
    -- with a twin's word that of its original, each statement, twins included, makes its word
    pub lines : (hash : Hash) (arrays : List (List ℕ)) (packet : List ℕ) (val : ℕ → ℕ) → length packet ≡ P.fields → HoldTogether hash P.lines arrays packet val
        → (b : ℕ) (l : Line) → line_of (cut P) b ≡ Some l → extended P.fields (count P) val (P.fields + b) ≡ line_word hash l arrays (extended P.fields (count P) val)
    pub single : (c : List ℕ) → IsIn c (cut P).all → has_flank (cut P) c ≡ false → IsSingle P c
    pub sources : (c : List ℕ) (b : ℕ) (l : Line) (o : Operand) → IsIn c (cut P).all → IsIn b c → line_of (cut P) b ≡ Some l → IsIn o (operands_of l) → Source c o
    -- of its own values a codelet's statement uses those of statements before it
    pub earlier : (c : List ℕ) (b a : ℕ) (l : Line) → IsIn c (cut P).all → IsIn b c → IsIn a c → line_of (cut P) b ≡ Some l → IsIn (Value (P.fields + a)) (operands_of l) → a < b
    pub shown : (o : Operand) → IsIn o P.outputs → Shown (outer (cut P) o)
    pub lower : (c d : List ℕ) → IsIn c (cut P).all → IsIn d (cut P).all → uses_codelet (cut P) c d ≡ true → level (cut P) d < level (cut P) c
    pub before : (k m : ℕ) (c d : List ℕ) → slice_get (in_order (cut P)) k ≡ Some d → slice_get (in_order (cut P)) m ≡ Some c → uses_codelet (cut P) c d ≡ true → k < m
    pub ordered : (c : List ℕ) → IsIn c (in_order (cut P)) → IsIn c (cut P).all
    pub order : (c : List ℕ) → IsIn c (cut P).all → IsIn c (in_order (cut P))
    pub apart : AreApart (in_order (cut P))
    pub alone : (c d : List ℕ) (b : ℕ) → IsIn c (cut P).all → IsIn d (cut P).all → IsIn b c → IsIn b d → c ≡ d
    pub slots : (c : List ℕ) (h : Held) → IsIn c (cut P).all → IsIn h (held (cut P) c) → SlotOf c h
    pub fetched : (b array : ℕ) (i : Operand) → slice_get P.lines b ≡ Some (line.Fetch array i) → IsHeldAt array (P.fields + b)
    pub stored : (j array : ℕ) (i v : Operand) → slice_get P.lines j ≡ Some (line.Store array i v) → IsWrittenAs array (seen_by (cut P) j v)
    pub arrays : AreDistinct (flat_map (λ c. map (λ h. h.array) (held (cut P) c)) (in_order (cut P)))
    pub fields : (v : ℕ) → v < P.fields → (place (cut P) v ≡ v) × (holder (cut P) v ≡ v)
    pub field_has : (v : ℕ) → v < P.fields → IsIn v (holders (cut P))
    pub export_has : (d : List ℕ) (v : ℕ) → IsIn d (cut P).all → IsIn v (exports (cut P) d) → IsIn v (holders (cut P))
    pub placed : (v : ℕ) → IsIn v (holders (cut P)) → IsPlaced v
    pub places : (v w : ℕ) → IsIn v (holders (cut P)) → IsIn w (holders (cut P)) → place (cut P) v ≡ place (cut P) w → v ≡ w
    pub made : (d : List ℕ) (v : ℕ) → IsIn v (exports (cut P) d) → (b : ℕ) × IsIn b d × (v ≡ P.fields + b)
    pub held_values : (d : List ℕ) (v : ℕ) → has_flank (cut P) d ≡ true → IsIn v (exports (cut P) d) → (h : Held) × IsIn h (held (cut P) d) × ((h.old ≡ Some v) ⊎ (h.new ≡ Some v))
    pub few_containers : containers (cut P) ≤ P.fields + count P
    pub few_codelets : length (in_order (cut P)) ≤ 2 * count P
