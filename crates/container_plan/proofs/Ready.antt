-- What legal parts of version one give the code that shares their containers.
use Rattle.std.proofs.Common.{◌≡◌, ℕ, ◌<◌, ◌≤◌, ◌^◌, List, Option, Some, None, length, map, ap, ◌∙◌, subst, arith}
use Rattle.std.specs.Prelude.{slice_index}
use Rattle.std.specs.List.{range_with_len}
use Rattle.banzai_config.specs.declared.fault.ConfigFault.{ConfigFault}
use Rattle.banzai_config.specs.declared.fault.ConfigFault.TheVariants as fault
use Rattle.banzai_config.specs.declared.fault.ConfigKind.{ConfigKind}
use Rattle.banzai_config.specs.declared.parts.Parts.{Parts}
use Rattle.banzai_config.specs.declared.parts.Version.TheVariants.{One}
use Rattle.banzai_config.specs.Checked.{IsFaultOf}
use Rattle.banzai_config.specs.Legal.{LegalFor, Shape, Violation, violation}
use Rattle.banzai_config.specs.Parts.{PartsForm, parts_form}
use Rattle.banzai_config.specs.Stages.{AreNumbersLegal}
use Rattle.banzai_config.proofs.Staged.{legal_depth, legal_numbers}
use Rattle.container_plan.specs.Renamed.{parts_renamed}
use Rattle.container_plan.specs.Shared.{all_taken, container_of, last, made, shared}
use Rattle.container_plan.proofs.Apart.{spans}
use Rattle.container_plan.proofs.Lawful.{legal_one}
use Rattle.container_plan.proofs.Legal.{few}
use Rattle.container_plan.proofs.Marking.{length-forms}
use Rattle.container_plan.proofs.Names.{container_low, name_at, names_are}

module _ (s : Shape) (p : PartsForm) (legal : LegalFor s p) where
  pub fields_fit : length p.fields ≤ p.containers
  fields_fit = let n : AreNumbersLegal p = legal_numbers s p legal in n.room_for_fields

  module _ (version : p.version ≡ One) where
    pub short : (v : ℕ) → made p v ≤ last p v
    short v = (spans p (legal_one s p legal version)).short v

    pub containers_small : (shared p).containers < 2 ^ 32
    containers_small = let n : AreNumbersLegal p = legal_numbers s p legal in omega (arith, n.few_containers, few p (legal_one s p legal version))

    module _ (names : List ℕ) (are : names ≡ map (container_of p) (range_with_len 0 p.containers)) where
      pub names_small : (v : ℕ) → slice_index names v < 2 ^ 32
      names_small v = let n : AreNumbersLegal p = legal_numbers s p legal in omega (arith, name_at p names are v, container_low (all_taken p) v, n.few_containers, few p (legal_one s p legal version))

pub stages_few : (s : Shape) (parts : Parts) → LegalFor s (parts_form parts) → s.depth ≤ 65535 → length parts.stages ≤ 65535
stages_few s parts legal h = omega (arith, legal_depth s (parts_form parts) legal, length-forms parts.stages)

-- parts under the names of the list are the parts with shared containers
pub shared_is : (p : PartsForm) (names words : List ℕ) (containers : ℕ) → names ≡ map (container_of p) (range_with_len 0 p.containers) → words ≡ names → containers ≡ (shared p).containers
    → parts_renamed (slice_index words) containers p ≡ shared p
shared_is p names words containers are same number =
    ap (λ (xs : List ℕ). parts_renamed (slice_index xs) containers p) same
    ∙ ap (λ (name : ℕ → ℕ). parts_renamed name containers p) (names_are p names are)
    ∙ ap (λ (n : ℕ). parts_renamed (container_of p) n p) number

-- legal parts are not refused
pub not_refused : (s : Shape) (p q : PartsForm) (f : ConfigFault) (k : ConfigKind) (stage atom : ℕ) → LegalFor s q → p ≡ q → f ≡ fault.Refused k stage atom → IsFaultOf s p f → ⊥
not_refused s p q f k stage atom legal same is h =
    let broken : violation s p ≡ Some (record { kind = k; stage = stage; atom = atom }) = subst (λ (x : ConfigFault). IsFaultOf s p x) is h in
    let fine : violation s p ≡ None = ap (violation s) same ∙ legal in
    none_some (violation s p) (record { kind = k; stage = stage; atom = atom }) fine broken
  where
    none_some : (x : Option Violation) (v : Violation) → x ≡ None → x ≡ Some v → ⊥
    none_some x v e f = cc
