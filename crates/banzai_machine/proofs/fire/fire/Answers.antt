use Rattle.std.proofs.Common.{rules, ◌≡◌, ℕ, List, [], ◌∷◌, ◌++◌, length, ◌∙◌, ap, append_assoc}
use Rattle.atom_traits.specs.Form.{words_of}
use Rattle.banzai_config.specs.declared.parts.PartSlot.{PartSlot}
use Rattle.banzai_machine.specs.declared.touch.Touch.{Touch}
use Rattle.banzai_config.specs.Action.{Arrays, old_word}
use Rattle.banzai_machine.proofs.Slots.{one_slot, two_slots, writes_one, writes_two, exports_one, exports_two}
use Rattle.banzai_machine.proofs.fire.fire.Goals as goal

pub returns-then-len-eq1-clause-arrays : goal.returns-then-len-eq1-clause-arrays
returns-then-len-eq1-clause-arrays g c =
    let s : PartSlot = c.get-slot.result.now in
    let arrays : Arrays = c.args.arrays.now in
    let words : List ℕ = c.args.words.now in
    let f : List ℕ → List ℕ = λ olds. words_of (g.T.AtomTemplate.trees_of c.args.atom.now.params) olds words in
    let n : length c.exec-new.result ≡ 2 = search rules in
    let one : length c.args.atom.now.slots ≡ 1 = cc (c.len.ensures, c.if-len-eq1.true) in
    let slots : c.args.atom.now.slots ≡ s ∷ [] = one_slot c.args.atom.now.slots s c.get-slot.ensures.item one in
    let news : c.exec-new.result ≡ f (old_word s arrays words ∷ 0 ∷ []) = rw (← c.reach-at.ensures.word) c.exec-new.ensures in
    rw (writes_one f c.args.atom.now.slots s arrays words c.exec-new.result slots news n) (rw c.reach-at.ensures.at at c.write.ensures.arrays)

pub returns-then-len-eq1-clause-words : goal.returns-then-len-eq1-clause-words
returns-then-len-eq1-clause-words g c =
    let s : PartSlot = c.get-slot.result.now in
    let arrays : Arrays = c.args.arrays.now in
    let words : List ℕ = c.args.words.now in
    let f : List ℕ → List ℕ = λ olds. words_of (g.T.AtomTemplate.trees_of c.args.atom.now.params) olds words in
    let n : length c.exec-new.result ≡ 2 = search rules in
    let one : length c.args.atom.now.slots ≡ 1 = cc (c.len.ensures, c.if-len-eq1.true) in
    let slots : c.args.atom.now.slots ≡ s ∷ [] = one_slot c.args.atom.now.slots s c.get-slot.ensures.item one in
    let news : c.exec-new.result ≡ f (old_word s arrays words ∷ 0 ∷ []) = rw (← c.reach-at.ensures.word) c.exec-new.ensures in
    rw (exports_one f c.args.atom.now.slots s arrays words c.exec-new.result words slots news n) (rw c.reach-at.ensures.word at c.write.ensures.words)

pub returns-then-len-eq1-clause-touches : goal.returns-then-len-eq1-clause-touches
returns-then-len-eq1-clause-touches g c =
    let s : PartSlot = c.get-slot.result.now in
    let one : length c.args.atom.now.slots ≡ 1 = cc (c.len.ensures, c.if-len-eq1.true) in
    let slots : c.args.atom.now.slots ≡ s ∷ [] = one_slot c.args.atom.now.slots s c.get-slot.ensures.item one in
    rw (slots, ← c.reach-at.ensures.at) c.push.ensures.list

pub returns-else-len-eq1-clause-arrays : goal.returns-else-len-eq1-clause-arrays
returns-else-len-eq1-clause-arrays g c =
    let s : PartSlot = c.get-slot.result.now in
    let t : PartSlot = c.get-other.result.now in
    let arrays : Arrays = c.args.arrays.now in
    let words : List ℕ = c.args.words.now in
    let f : List ℕ → List ℕ = λ olds. words_of (g.T.AtomTemplate.trees_of c.args.atom.now.params) olds words in
    let n : length c.exec-new-else-len-eq1.result ≡ 2 = search rules in
    let slots : c.args.atom.now.slots ≡ s ∷ t ∷ [] = two_slots c.args.atom.now.slots s t c.get-slot.ensures.item c.get-other.ensures.item c.requires.within.few in
    let news : c.exec-new-else-len-eq1.result ≡ f (old_word s arrays words ∷ old_word t arrays words ∷ []) =
    rw (← c.reach-at.ensures.word, ← c.reach-other_at.ensures.word) c.exec-new-else-len-eq1.ensures in
    rw (writes_two f c.args.atom.now.slots s t arrays words c.exec-new-else-len-eq1.result slots news n)
    (rw (c.write-else-len-eq1.ensures.arrays, c.reach-at.ensures.at, c.reach-other_at.ensures.at) at c.write-else-len-eq1-2.ensures.arrays)

pub returns-else-len-eq1-clause-words : goal.returns-else-len-eq1-clause-words
returns-else-len-eq1-clause-words g c =
    let s : PartSlot = c.get-slot.result.now in
    let t : PartSlot = c.get-other.result.now in
    let arrays : Arrays = c.args.arrays.now in
    let words : List ℕ = c.args.words.now in
    let f : List ℕ → List ℕ = λ olds. words_of (g.T.AtomTemplate.trees_of c.args.atom.now.params) olds words in
    let n : length c.exec-new-else-len-eq1.result ≡ 2 = search rules in
    let slots : c.args.atom.now.slots ≡ s ∷ t ∷ [] = two_slots c.args.atom.now.slots s t c.get-slot.ensures.item c.get-other.ensures.item c.requires.within.few in
    let news : c.exec-new-else-len-eq1.result ≡ f (old_word s arrays words ∷ old_word t arrays words ∷ []) =
    rw (← c.reach-at.ensures.word, ← c.reach-other_at.ensures.word) c.exec-new-else-len-eq1.ensures in
    rw (exports_two f c.args.atom.now.slots s t arrays words c.exec-new-else-len-eq1.result words slots news n)
    (rw (c.write-else-len-eq1.ensures.words, c.reach-at.ensures.word, c.reach-other_at.ensures.word) at c.write-else-len-eq1-2.ensures.words)

pub returns-else-len-eq1-clause-touches : goal.returns-else-len-eq1-clause-touches
returns-else-len-eq1-clause-touches g c =
    let s : PartSlot = c.get-slot.result.now in
    let t : PartSlot = c.get-other.result.now in
    let a : Touch = record { stage = c.args.number; array = s.array; index = c.reach-at.result.0 } in
    let b : Touch = record { stage = c.args.number; array = t.array; index = c.reach-other_at.result.0 } in
    let slots : c.args.atom.now.slots ≡ s ∷ t ∷ [] = two_slots c.args.atom.now.slots s t c.get-slot.ensures.item c.get-other.ensures.item c.requires.within.few in
    rw (slots, ← c.reach-at.ensures.at, ← c.reach-other_at.ensures.at)
    (c.push-else-len-eq1.ensures.list
    ∙ ap (λ (z : List Touch). z ++ b ∷ []) c.push.ensures.list
    ∙ append_assoc c.args.touches.now.list (a ∷ []) (b ∷ []))
