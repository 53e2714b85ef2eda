-- How a list holds its items: a type may lead back to itself through it.
use mathlib.Core.Former.{Former, children, list, this, via}
use mathlib.Core.List.{List, []}
use mathlib.Core.Path.{◌≡◌, refl, sym}
use base.Stored.{code_map}
use denote.Hole.Carrier.{list-listed, listed}
use denote.Hole.Fix.{over}
use denote.HoleLaws.{Alike}
use denote.HolePlaces.{Recodes, laid, struct_places}
use denote.Model.Placed.{view_places}
use denote.Param.Weighed.{Weighed, w_list}
use denote.RattleType.{RattleType}
use Rattle.std.specs.contracts.alloc.Global as global
use Rattle.std.specs.contracts.impls.GlobalAllocator.TheImpl.{ghosts}
use Rattle.std.specs.declared.alloc.Global.{Global}
use Rattle.std.specs.formers.vec.Vec as of_vec
use Rattle.dom_words.specs.contracts.seq.Seq as row
use Rattle.dom_words.specs.contracts.seq.Seq.TheInside as row_inside
use Rattle.dom_words.specs.declared.seq.Seq.TheInside.{Inside}
use Rattle.dom_words.specs.declared.seq.Seq.TheView.{invariant, view}

-- its value is a list, and so it is split as a list is
abbrev pub the_former : Former {0} → Former {0}
the_former inner = list inner

abbrev pub the_weighed : {inner : Former {0}} → Weighed inner → Weighed (the_former inner)
the_weighed weight = w_list weight

pub the_empty : List ⊥
the_empty = []

-- what it holds, in order
abbrev pub the_items : (X : Type 0) → List X → List X
the_items X items = items

pub the_items_listed : (X : Type 0) (items : List X) → listed _ (children (the_former this) X items) ≡ the_items X items
the_items_listed X items = list-listed X items

-- its one field, whose values are split as those of a vector
abbrev held : Former {0}
held = via (of_vec.the_former this Global) Inside (λ X seq. seq.items) (λ X vec. record { items = vec }) (λ X seq. refl) (λ X vec. refl)

module _ (A B : RattleType) (f : A.Denot → B.Denot) where
  pub the_places : Alike A B f → Alike (row.the_row A) (row.the_row B) ((the_former this).map A.Denot B.Denot f)
  the_places alike =
      let field = laid _ _ _ (of_vec.the_places global.the_row ghosts A B f alike) in
      let fields = struct_places (row_inside.the_type A) (row_inside.the_type B) (of_vec.mapped f, tt) _ (λ d. refl) refl (field, tt) in
      view_places held (list this) view (λ X Y k seq. refl) (λ X seq. refl) A.Denot B.Denot f (row.the_row A).coded (row.the_row B).coded
      (invariant A.Denot) (invariant B.Denot) (λ seq p q. refl) (λ seq p q. refl) (λ seq e. tt) (λ seq e. tt)
      (over (row_inside.the_row A)) (over (row_inside.the_row B)) fields

  pub the_codes_placed : Recodes A B f → Recodes (row.the_row A) (row.the_row B) ((the_former this).map A.Denot B.Denot f)
  the_codes_placed same items = sym (code_map A.coded.code B.coded.code f (λ x. sym (same x)) items)
