-- The operators of atoms without state, and what they give.
use Rattle.std.specs.Prelude.{ℕ, Bool, true, false, nat_eq, nat_lt, List, [], ◌∷◌, length, map}
use Rattle.dom_words.specs.Operators.{bin_word, chosen, reduced, un_word}
use Rattle.dom_words.specs.State.{Hash}
use Rattle.dom_words.specs.declared.operators.BinOp.{BinOp}
use Rattle.dom_words.specs.declared.operators.BinOp.TheVariants as bin
use Rattle.atom_traits.specs.declared.tree.Port.{Port}
use Rattle.atom_traits.specs.declared.operation.StatelessOp.{StatelessOp}
use Rattle.atom_traits.specs.declared.operation.StatelessOp.TheVariants.{Un, Bin, Cond, Hash as HashOf}
use Rattle.atom_traits.specs.Form.{port_word}
use Rattle.atom_traits.specs.Tests.{ports_in}
use Rattle.atom_traits.specs.Renamed.{port_renamed}

-- what an operator gives on the words of the containers
abbrev pub stateless_word : Hash → StatelessOp → List ℕ → ℕ
stateless_word hash (Un op a) words = un_word op (port_word a words)
stateless_word hash (Bin op a b) words = bin_word op (port_word a words) (port_word b words)
stateless_word hash (Cond c a b) words = chosen (port_word c words) (port_word a words) (port_word b words)
stateless_word hash (HashOf unit modulus args) words = reduced modulus (hash unit (map (λ a. port_word a words) args))

-- what an operator works on, in order
abbrev pub ports_of : StatelessOp → List Port
ports_of (Un op a) = a ∷ []
ports_of (Bin op a b) = a ∷ b ∷ []
ports_of (Cond c a b) = c ∷ a ∷ b ∷ []
ports_of (HashOf unit modulus args) = args

-- each container that is named passes
abbrev pub operation_names : (ℕ → Bool) → StatelessOp → Bool
operation_names r op = ports_in r (ports_of op)

-- each container that is named is below n
abbrev pub operation_below : ℕ → StatelessOp → Bool
operation_below n op = operation_names (λ c. nat_lt c n) op

-- a hash has as many arguments as its unit says
abbrev pub operation_has_args : StatelessOp → Bool
operation_has_args (Un op a) = true
operation_has_args (Bin op a b) = true
operation_has_args (Cond c a b) = true
operation_has_args (HashOf unit modulus args) = nat_eq (length args) unit.args

-- `*`, `/` and `%` need a multiplier
abbrev pub is_product : BinOp → Bool
is_product bin.Mul = true
is_product bin.Div = true
is_product bin.Rem = true
is_product bin.Add = false
is_product bin.Sub = false
is_product bin.Shl = false
is_product bin.Shr = false
is_product bin.Lt = false
is_product bin.Le = false
is_product bin.Gt = false
is_product bin.Ge = false
is_product bin.Eq = false
is_product bin.Ne = false
is_product bin.BitAnd = false
is_product bin.BitXor = false
is_product bin.BitOr = false
is_product bin.And = false
is_product bin.Or = false

-- the operator needs a multiplier; a hash needs none, whatever its modulus
abbrev pub needs_multiplier : StatelessOp → Bool
needs_multiplier (Un op a) = false
needs_multiplier (Bin op a b) = is_product op
needs_multiplier (Cond c a b) = false
needs_multiplier (HashOf unit modulus args) = false

-- the operator on other containers: f gives the new number of each
abbrev pub operation_renamed : (ℕ → ℕ) → StatelessOp → StatelessOp
operation_renamed f (Un op a) = Un op (port_renamed f a)
operation_renamed f (Bin op a b) = Bin op (port_renamed f a) (port_renamed f b)
operation_renamed f (Cond c a b) = Cond (port_renamed f c) (port_renamed f a) (port_renamed f b)
operation_renamed f (HashOf unit modulus args) = HashOf unit modulus (map (port_renamed f) args)
