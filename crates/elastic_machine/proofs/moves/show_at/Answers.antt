use Rattle.std.proofs.Common.{◌≡◌, ◌+◌, ◌-◌, ◌*◌, ◌≤◌, true, ℕ, List, length, map, take, drop, ap, subst, sym, ◌∙◌, arith, length-drop}
use Rattle.std.proofs.lemmas.List.{length-map}
use Rattle.std.specs.List.{AllByRecursion}
use Rattle.atom_traits.specs.Form.{port_word}
use Rattle.atom_traits.specs.Tests.{port_below}
use Rattle.banzai_machine.proofs.Rounds.{take_some}
use Rattle.elastic_machine.proofs.Places.{all_over}
use Rattle.elastic_machine.proofs.moves.show_at.Goals as goal

pub show-requires-clause-within : goal.show-requires-clause-within
show-requires-clause-within c =
    let w : ℕ = c.args.width in
    let a : ℕ = c.args.at * w in
    let ws : List ℕ = c.args.words.now in
    let cut : a + w - a ≡ w = omega arith in
    let room : a + w - a ≤ length (drop a ws) = omega (arith, length-drop a ws, c.requires.fits) in
    let wide : length (take (a + w - a) (drop a ws)) ≡ w = take_some (a + w - a) (drop a ws) room ∙ cut in
    subst (λ (n : ℕ). AllByRecursion (λ port. port_below n port ≡ true) c.args.outputs.now) (sym wide) c.requires.outputs

pub returns : goal.returns
returns c =
    let w : ℕ = c.args.width in
    let a : ℕ = c.args.at * w in
    let ws : List ℕ = c.args.words.now in
    let cut : a + w - a ≡ w = omega arith in
    let size : length c.show.new.leaving ≡ length c.args.leaving.now =
    ap length c.show.ensures.words ∙ length-map c.args.outputs.now (λ port. port_word port (take (a + w - a) (drop a ws))) ∙ sym c.requires.size in
    all_over c.args.leaving.now c.show.new.leaving size
    ∙ c.show.ensures.words
    ∙ ap (λ (n : ℕ). map (λ port. port_word port (take n (drop a ws))) c.args.outputs.now) cut
