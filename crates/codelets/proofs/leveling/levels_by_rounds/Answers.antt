use Rattle.std.proofs.Common.{◌≡◌, ◌<◌, ◌≤◌, ◌+◌, ◌*◌, ◌∙◌, ℕ, suc, List, [], map, sym, subst, ap, arith}
use Rattle.std.specs.Prelude.{slice_index}
use Rattle.codelets.specs.Cut.{uses_codelet, longest}
use Rattle.codelets.specs.ByRows.{cut_by}
use Rattle.codelets.specs.Lists.{level_by, max_of}
use Rattle.codelets.proofs.Rounds.{levels_small, square_small, settled_at, next_round}
use Rattle.codelets.proofs.leveling.levels_by_rounds.Goals as goal

pub loop-k-init : goal.loop-k-init
loop-k-init c = c.in_ok-levels.ensures ∙ ap (λ (ds : List (List ℕ)). map {B = ℕ} (λ _. 1) ds) c.requires.pieces

pub round-requires : goal.round-requires
round-requires c =
    let D = cut_by c.args.flat.now c.args.graph.now in
    let now : c.as_slice.result.now ≡ map (level_by (uses_codelet D) D.all c.loop-k._k) D.all = c.as_slice.ensures.value ∙ c.loop-k.invariant in
    let few : c.len.result ≤ 512 = omega (arith, c.len.ensures, c.args.flat.now.few_lines) in
    let top : (c.len.result + 1) * (c.len.result + 1) < 300000 = square_small c.len.result few in
    levels_small (uses_codelet D) D.all c.loop-k._k c.as_slice.result.now now (omega (arith, top, c.loop-k-test.true))

pub returns-then-is_same : goal.returns-then-is_same
returns-then-is_same c =
    let D = cut_by c.args.flat.now c.args.graph.now in
    let k : ℕ = c.loop-k._k in
    let levels : List ℕ = c.loop-k.levels.items in
    let next : List ℕ = c.in_ok-next.next.items in
    let made : next ≡ map (λ us. suc (max_of (map (slice_index levels) us))) c.args.lists.now =
    c.in_ok-next.ensures ∙ ap (λ (ls : List ℕ). map (λ us. suc (max_of (map (slice_index ls) us))) c.args.lists.now) c.as_slice.ensures.value in
    let same : next ≡ levels = sym c.as_slice-in-loop-k.ensures.value ∙ c.if-is_same.ensures ∙ c.as_slice-in-loop-k-2.ensures.value in
    let below : k < longest D = subst (λ (m : ℕ). k < (m + 1) * (m + 1)) c.len.ensures c.loop-k-test.true in
    settled_at (uses_codelet D) D.all [] k (longest D) levels next c.args.lists.now c.requires.lists c.loop-k.invariant made same (omega (arith, below))

pub loop-k-preserved : goal.loop-k-preserved
loop-k-preserved c =
    let D = cut_by c.args.flat.now c.args.graph.now in
    let k : ℕ = c.loop-k._k in
    let levels : List ℕ = c.loop-k.levels.items in
    let next : List ℕ = c.in_ok-next.next.items in
    let made : next ≡ map (λ us. suc (max_of (map (slice_index levels) us))) c.args.lists.now =
    c.in_ok-next.ensures ∙ ap (λ (ls : List ℕ). map (λ us. suc (max_of (map (slice_index ls) us))) c.args.lists.now) c.as_slice.ensures.value in
    next_round (uses_codelet D) D.all [] k levels next c.args.lists.now c.requires.lists c.loop-k.invariant made

pub returns : goal.returns
returns c =
    let D = cut_by c.args.flat.now c.args.graph.now in
    let end : c.loop-k._k ≡ (c.len.result + 1) * (c.len.result + 1) = omega (arith, c.loop-k-test.false, c.loop-k.auto._k-end) in
    let all : c.loop-k._k ≡ longest D = end ∙ ap (λ (m : ℕ). (m + 1) * (m + 1)) c.len.ensures in
    c.loop-k.invariant ∙ ap (λ (j : ℕ). map (level_by (uses_codelet D) D.all j) D.all) all
