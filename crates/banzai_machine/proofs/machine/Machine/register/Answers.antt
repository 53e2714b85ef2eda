use Rattle.std.proofs.Common.{◌≡◌, ℕ, ◌+◌, ◌*◌, ◌-◌, ◌<◌, Bool, List, Some, None, length, take, drop, get_or, sym, ◌∙◌, ap, arith}
use Rattle.banzai_machine.specs.Ring.{ring, shown_register}
use Rattle.banzai_machine.proofs.Cycle.{register_is}
use Rattle.banzai_machine.proofs.machine.Machine.register.Goals as goal

pub returns-then-index-clause-words : goal.returns-then-index-clause-words
returns-then-index-clause-words g c =
    let m = c.self.inside in
    let w : ℕ = m.config.containers in
    let v : ℕ = c.containers-width.result in
    let at : ℕ = c.place-at.result in
    let cut : at * w + w - at * w ≡ w = omega arith in
    let size : c.stages.result ≡ length m.filled.items = c.stages.ensures ∙ sym c.self.invariant.4.flags in
    let p : m.position < c.stages.result = omega (arith, c.stages.ensures, c.self.invariant.4.position) in
    let k : c.args.k < c.stages.result = omega (arith, c.stages.ensures, c.self.invariant.0, c.requires) in
    let is : get_or (ring w m.position m.filled.items m.words.items) c.args.k None ≡ shown_register c.index.result.now (take w (drop (at * w) m.words.items)) =
    register_is w m.position c.args.k c.stages.result at m.filled.items m.words.items c.index.result.now size p k c.place-at.ensures c.index.ensures in
    let width : v ≡ w = c.containers-width.ensures in
    rw (← c.self.view_is)
    (ap (λ (n : ℕ). Some (take (at * n + n - at * n) (drop (at * n) c.deref.result.now))) width
    ∙ ap (λ (n : ℕ). Some (take n (drop (at * w) c.deref.result.now))) cut
    ∙ ap (λ (ws : List ℕ). Some (take w (drop (at * w) ws))) c.deref.ensures.value
    ∙ sym (is ∙ ap (λ (b : Bool). shown_register b (take w (drop (at * w) m.words.items))) c.if-index.true))

pub returns-else-index-clause-words : goal.returns-else-index-clause-words
returns-else-index-clause-words g c =
    let m = c.self.inside in
    let w : ℕ = m.config.containers in
    let at : ℕ = c.place-at.result in
    let size : c.stages.result ≡ length m.filled.items = c.stages.ensures ∙ sym c.self.invariant.4.flags in
    let p : m.position < c.stages.result = omega (arith, c.stages.ensures, c.self.invariant.4.position) in
    let k : c.args.k < c.stages.result = omega (arith, c.stages.ensures, c.self.invariant.0, c.requires) in
    let is : get_or (ring w m.position m.filled.items m.words.items) c.args.k None ≡ shown_register c.index.result.now (take w (drop (at * w) m.words.items)) =
    register_is w m.position c.args.k c.stages.result at m.filled.items m.words.items c.index.result.now size p k c.place-at.ensures c.index.ensures in
    rw (← c.self.view_is)
    (sym (is ∙ ap (λ (b : Bool). shown_register b (take w (drop (at * w) m.words.items))) c.if-index.false))
