-- The first chain that ends at a codelet.
use Rattle.std.specs.Prelude.{◌≡◌, ℕ, ◌-◌, ◌<◌, true, if◌then◌else◌, ◌==◌, List, [], ◌∷◌, ◌++◌, get_or, length, Option, Some, None}
use Rattle.std.specs.List.{Contains}
use Rattle.codelets.specs.declared.codelet.Codelet.{Codelet}
use Rattle.codelets.specs.Leveled.{level_at}
use Rattle.stage_plan.specs.Chains.{Chain, IsChain, end_of, chain_length, numbers, is_before}

-- of the chains with as many codelets as its level that end at p, the first in dictionary order
pub record IsBest (cs : List Codelet) (p : ℕ) (shown : List ℕ) : Type 0 where
  pub chain : Chain
  pub is_chain : IsChain cs chain
  pub ends : end_of chain ≡ p
  pub long : chain_length chain ≡ level_at cs p
  pub spelled : numbers cs chain ≡ shown
  pub first : (other : Chain) → IsChain cs other → end_of other ≡ p → chain_length other ≡ level_at cs p → is_before shown (numbers cs other) ≡ true

abbrev pub chain_at : List (List ℕ) → ℕ → List ℕ
chain_at chains u = get_or chains u []

-- of the codelets with a property and of a level, the one whose chain is the first
abbrev pub IsBestIn : List Codelet → List (List ℕ) → (ℕ → Type 0) → ℕ → Option ℕ → Type 0
IsBestIn cs chains P level None = (u : ℕ) → P u → level_at cs u ≡ level → ⊥
IsBestIn cs chains P level (Some b) = P b × ((level_at cs b ≡ level) × ((u : ℕ) → P u → level_at cs u ≡ level → is_before (chain_at chains b) (chain_at chains u) ≡ true))

abbrev pub IsBestAmong : List Codelet → List (List ℕ) → List ℕ → ℕ → Option ℕ → Type 0
IsBestAmong cs chains among level best = IsBestIn cs chains (λ u. Contains among u) level best

abbrev pub IsBestBelow : List Codelet → List (List ℕ) → ℕ → ℕ → Option ℕ → Type 0
IsBestBelow cs chains n level best = IsBestIn cs chains (λ u. u < n) level best

abbrev pub better : List (List ℕ) → Option ℕ → ℕ → ℕ
better chains None u = u
better chains (Some b) u = if is_before (chain_at chains b) (chain_at chains u) then b else u

abbrev pub next_best : List Codelet → List (List ℕ) → ℕ → Option ℕ → ℕ → Option ℕ
next_best cs chains level best u = if level_at cs u == level then Some (better chains best u) else best

abbrev pub chain_of : List (List ℕ) → Option ℕ → List ℕ
chain_of chains None = []
chain_of chains (Some b) = chain_at chains b

-- the first of the chains of its uses, and the codelet
abbrev pub IsChainTo : List Codelet → List (List ℕ) → Codelet → List ℕ → Type 0
IsChainTo cs chains c ns = (o : Option ℕ) × (IsBestAmong cs chains c.uses (c.level - 1) o × (ns ≡ chain_of chains o ++ c.first ∷ []))

pub record AreBest (cs : List Codelet) (chains : List (List ℕ)) (n : ℕ) : Type 0 where
  pub count : length chains ≡ n
  pub best : (p : ℕ) → p < n → IsBest cs p (chain_at chains p)
