-- What statements use and make.
use Rattle.std.specs.Prelude.{◌≡◌, ℕ, Bool, false, not, ◌||◌, nat_eq, List, [], ◌∷◌, map}
use Rattle.std.specs.List.{AllByRecursion, list_any}
use Rattle.dom_flat.specs.declared.line.Operand.{Operand}
use Rattle.dom_flat.specs.declared.line.Operand.TheVariants.{Const, Value}
use Rattle.dom_flat.specs.declared.line.Line.{Line}
use Rattle.dom_flat.specs.declared.line.Line.TheVariants as line
use Rattle.dom_flat.specs.Flanks.{Flank, fetch, store, plain, flank_of, is_read_flank, is_write_flank, writes_array}

-- the operands of a statement in order, its index too
abbrev pub operands_of : Line → List Operand
operands_of (line.Fetch array i) = i ∷ []
operands_of (line.Store array i value) = i ∷ value ∷ []
operands_of (line.Un op a) = a ∷ []
operands_of (line.Bin op a b) = a ∷ b ∷ []
operands_of (line.Cond c a b) = c ∷ a ∷ b ∷ []
operands_of (line.Hash unit modulus args) = args

-- the statement with f of each operand in its place
abbrev pub with_operands : (Operand → Operand) → Line → Line
with_operands f (line.Fetch array i) = line.Fetch array (f i)
with_operands f (line.Store array i value) = line.Store array (f i) (f value)
with_operands f (line.Un op a) = line.Un op (f a)
with_operands f (line.Bin op a b) = line.Bin op (f a) (f b)
with_operands f (line.Cond c a b) = line.Cond (f c) (f a) (f b)
with_operands f (line.Hash unit modulus args) = line.Hash unit modulus (map f args)

-- the operand is this value
abbrev pub is_value : ℕ → Operand → Bool
is_value v (Const w) = false
is_value v (Value u) = nat_eq v u

-- a value is among operands
abbrev pub uses : ℕ → List Operand → Bool
uses v operands = list_any (is_value v) operands

-- a read flank
abbrev pub is_fetch : Line → Bool
is_fetch l = is_read_flank (flank_of l)

-- a read flank or a write flank
abbrev pub is_flank : Line → Bool
is_flank l = is_read_flank (flank_of l) || is_write_flank (flank_of l)

-- all but a write flank make a value
abbrev pub makes : Line → Bool
makes l = not (is_write_flank (flank_of l))

-- the write flank of this array
abbrev pub stores_to : ℕ → Line → Bool
stores_to a l = writes_array a (flank_of l)

-- no statement writes this array
abbrev pub IsQuiet : ℕ → List Line → Type 0
IsQuiet a lines = AllByRecursion (λ l. stores_to a l ≡ false) lines

-- a write flank that writes this value
abbrev pub writes_value : ℕ → Flank → Bool
writes_value v (fetch a i) = false
writes_value v (store a i o) = is_value v o
writes_value v plain = false

-- a statement that stores this value
abbrev pub stores : ℕ → Line → Bool
stores v l = writes_value v (flank_of l)
