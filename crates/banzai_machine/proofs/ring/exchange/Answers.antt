use Rattle.std.proofs.Common.{◌≡◌, ℕ, Bool, ◌+◌, ◌*◌, ◌-◌, ◌≤◌, false, List, None, length, take, drop, get_or, ◌∙◌, ap, subst, arith, length-drop}
use Rattle.std.proofs.lemmas.List.{get_or-set_same}
use Rattle.std.proofs.lemmas.Slice.{take-put_mid_below, drop-put_mid, between-put_mid}
use Rattle.std.specs.Option.{option_map}
use Rattle.std.proofs.Common.{Bor, set}
use Rattle.banzai_config.specs.Action.{Entry}
use Rattle.banzai_machine.specs.Kept.{one_if, put_in}
use Rattle.banzai_machine.specs.Pipe.{shown}
use Rattle.banzai_machine.specs.Ring.{places, shown_register}
use Rattle.banzai_machine.specs.State.{LeavesAs}
use Rattle.banzai_machine.proofs.Idle.{few_set, one_set, set_one}
use Rattle.banzai_machine.proofs.Rounds.{take_some, place_at, places_changed}
use Rattle.banzai_machine.proofs.ring.exchange.Goals as goal
use borrow.Rule.Slice.PartMut.{put_mid}

pub returns-clause-left : goal.returns-clause-left
returns-clause-left g c =
    let w : ℕ = c.args.width in
    let a : ℕ = c.args.at * w in
    let cut : a + w - a ≡ w = omega arith in
    let is : shown_register (get_or c.args.filled.now c.args.at false) (take (a + w - a) (drop a c.args.words.now)) ≡ get_or (places w c.args.filled.now c.args.words.now) c.args.at None =
    ap (λ (n : ℕ). shown_register (get_or c.args.filled.now c.args.at false) (take n (drop a c.args.words.now))) cut
    ∙ place_at w c.args.filled.now c.args.words.now c.args.at None c.requires.at in
    subst (λ (e : Entry). LeavesAs (shown c.args.config.now e) c.leave-told.result c.args.leaving.now c.leave-told.new.leaving) is c.leave-told.ensures.left

pub returns-clause-places : goal.returns-clause-places
returns-clause-places g c =
    let w : ℕ = c.args.width in
    let a : ℕ = c.args.at * w in
    let k : ℕ = a + w - a in
    let words : List ℕ = c.args.words.now in
    let new : List ℕ = c.take_in.new.words in
    let all : List ℕ = put_mid a k words new in
    let entry : Entry = option_map (λ (fields : Bor (List ℕ)). fields.now) c.args.entering in
    let cut : k ≡ w = omega arith in
    let room : k ≤ length (drop a words) = omega (arith, length-drop a words, c.requires.fits) in
    let width : length (take k (drop a words)) ≡ w = take_some k (drop a words) room ∙ cut in
    let size : length new ≡ w = c.take_in.ensures.size ∙ width in
    let size' : length new ≡ k = omega arith in
    let low : a ≤ length words = omega (arith, c.requires.fits) in
    let same : a ≤ a = omega arith in
    let past : a + k ≤ a + w = omega arith in
    let here : take w (drop a all) ≡ new =
    subst (λ (n : ℕ). take n (drop a all) ≡ new) cut (between-put_mid a k words new (a + w) low size') in
    places_changed w c.args.filled.now words all c.args.at c.take_in.new.filled c.requires.at (take-put_mid_below a k words new a same low) (drop-put_mid a k words new (a + w) past low size')
    ∙ ap (λ (ws : List ℕ). set (places w c.args.filled.now words) c.args.at (shown_register c.take_in.new.filled ws)) here
    ∙ ap (λ (e : Entry). set (places w c.args.filled.now words) c.args.at e) (c.take_in.ensures.entered ∙ ap (λ (n : ℕ). put_in n entry) width)

pub flight-requires-clause-few : goal.flight-requires-clause-few
flight-requires-clause-few g c = omega (arith, c.requires.flight, few_set c.args.filled.now, c.requires.few)

pub flight-requires-clause-left : goal.flight-requires-clause-left
flight-requires-clause-left g c =
    let told : one_if c.leave-told.result ≡ one_if (get_or c.args.filled.now c.args.at false) = ap (λ (b : Bool). one_if b) c.leave-told.ensures.told in
    omega (arith, told, one_set c.args.filled.now c.args.at false c.requires.at, c.requires.flight)

pub returns-clause-flight : goal.returns-clause-flight
returns-clause-flight g c =
    let flags : List Bool = c.args.filled.now in
    let at : ℕ = c.args.at in
    let now : Bool = c.take_in.new.filled in
    let told : one_if c.leave-told.result ≡ one_if (get_or flags at false) = ap (λ (b : Bool). one_if b) c.leave-told.ensures.told in
    let came : one_if (get_or (set flags at now) at false) ≡ one_if now = ap (λ (b : Bool). one_if b) (get_or-set_same flags at now false c.requires.at) in
    omega (arith, c.flight.ensures, told, came, set_one flags at now false c.requires.at, c.requires.flight)
