-- An operator gives the same on containers that agree where it names them.
use Rattle.std.specs.Prelude.{◌≡◌, ℕ, Bool, true, List, [], ◌∷◌, map, slice_index, refl}
use Rattle.std.proofs.Common.{sym, ap, ◌∙◌}
use Rattle.std.proofs.lemmas.Bool.{and_parts}
use Rattle.dom_words.specs.Operators.{bin_word, chosen, reduced, un_word}
use Rattle.dom_words.specs.State.{Hash}
use Rattle.atom_traits.specs.declared.tree.Port.{Port}
use Rattle.atom_traits.specs.declared.operation.StatelessOp.{StatelessOp}
use Rattle.atom_traits.specs.declared.operation.StatelessOp.TheVariants.{Un, Bin, Cond, Hash as HashOf}
use Rattle.atom_traits.specs.Form.{port_word}
use Rattle.atom_traits.specs.Tests.{port_in, ports_in}
use Rattle.atom_traits.specs.Renamed.{port_renamed}
use Rattle.atom_traits.specs.Operation.{operation_names, operation_renamed, stateless_word}
use Rattle.atom_traits.proofs.SameLaws.{port_moves, port_stays}

-- the words at renamed containers are those that the containers had, where r holds
module _ (f : ℕ → ℕ) (r : ℕ → Bool) (words after : List ℕ) (same : (c : ℕ) → r c ≡ true → slice_index after (f c) ≡ slice_index words c) where
  port_at : (x : Port) → port_in r x ≡ true → port_word (port_renamed f x) after ≡ port_word x words
  port_at = port_moves f r [] words after same

  ports_at : (xs : List Port) → ports_in r xs ≡ true → map (λ a. port_word a after) (map (port_renamed f) xs) ≡ map (λ a. port_word a words) xs
  ports_at [] e = refl
  ports_at (x ∷ xs) e =
      let k = and_parts _ _ e in
      ap (λ z. z ∷ map (λ a. port_word a after) (map (port_renamed f) xs)) (port_at x k.0) ∙ ap (λ z. port_word x words ∷ z) (ports_at xs k.1)

  -- a renamed operator on renamed containers
  pub operation_moves : (hash : Hash) (op : StatelessOp) → operation_names r op ≡ true → stateless_word hash (operation_renamed f op) after ≡ stateless_word hash op words
  operation_moves hash (Un op a) e = ap (un_word op) (port_at a (and_parts _ _ e).0)
  operation_moves hash (Bin op a b) e =
      let k = and_parts _ _ e in let m = and_parts _ _ k.1 in
      ap (λ x. bin_word op x (port_word (port_renamed f b) after)) (port_at a k.0) ∙ ap (bin_word op (port_word a words)) (port_at b m.0)
  operation_moves hash (Cond c a b) e =
      let k = and_parts _ _ e in let m = and_parts _ _ k.1 in let n = and_parts _ _ m.1 in
      ap (λ x. chosen x (port_word (port_renamed f a) after) (port_word (port_renamed f b) after)) (port_at c k.0)
      ∙ ap (λ x. chosen (port_word c words) x (port_word (port_renamed f b) after)) (port_at a m.0)
      ∙ ap (chosen (port_word c words) (port_word a words)) (port_at b n.0)
  operation_moves hash (HashOf unit modulus args) e = ap (λ x. reduced modulus (hash unit x)) (ports_at args e)

ports_stay : (xs : List Port) → map (port_renamed (λ c. c)) xs ≡ xs
ports_stay [] = refl
ports_stay (x ∷ xs) = ap (λ z. z ∷ map (port_renamed (λ c. c)) xs) (port_stays x) ∙ ap (λ z. x ∷ z) (ports_stay xs)

pub operation_stays : (op : StatelessOp) → operation_renamed (λ c. c) op ≡ op
operation_stays (Un op a) = ap (Un op) (port_stays a)
operation_stays (Bin op a b) = ap (λ x. Bin op x (port_renamed (λ c. c) b)) (port_stays a) ∙ ap (Bin op a) (port_stays b)
operation_stays (Cond c a b) =
    ap (λ x. Cond x (port_renamed (λ c. c) a) (port_renamed (λ c. c) b)) (port_stays c)
    ∙ ap (λ x. Cond c x (port_renamed (λ c. c) b)) (port_stays a)
    ∙ ap (Cond c a) (port_stays b)
operation_stays (HashOf unit modulus args) = ap (HashOf unit modulus) (ports_stay args)

-- the same operator on two lists of containers that agree where r holds
pub same_operation : (r : ℕ → Bool) (words after : List ℕ) → ((c : ℕ) → r c ≡ true → slice_index after c ≡ slice_index words c) → (hash : Hash) (op : StatelessOp) → operation_names r op ≡ true → stateless_word hash op after ≡ stateless_word hash op words
same_operation r words after same hash op e =
    ap (λ x. stateless_word hash x after) (sym (operation_stays op)) ∙ operation_moves (λ c. c) r words after same hash op e
