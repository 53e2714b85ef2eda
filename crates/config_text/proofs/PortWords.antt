-- Ports from words.
use Rattle.std.proofs.Common.{◌≡◌, ℕ, zero, suc, ◌+◌, ◌≤◌, ◌<◌, Option, Some, None, List, [], ◌∷◌, ◌++◌, length, drop, get_or, refl, sym, ap, ◌∙◌, arith, add-one, append_assoc}
use Rattle.std.proofs.lemmas.List.{append-nil, drop_all}
use Rattle.atom_traits.specs.declared.tree.Port.{Port}
use Rattle.config_text.specs.Reading.{on, port_from, ports_from}

-- what stands before, and the ports of the rest
abbrev pub ports_after : List Port → List (List ℕ) → Option (List Port)
ports_after ps ws = on (ports_from ws) (λ qs. Some (ps ++ qs))

pub ports_first : (ps : List Port) (ws : List (List ℕ)) → ps ≡ [] → ports_after ps ws ≡ ports_from ws
ports_first ps ws e = ap (λ l. ports_after l ws) e ∙ from (ports_from ws)
  where
    from : (o : Option (List Port)) → on o (λ qs. Some ([] ++ qs)) ≡ o
    from None = refl
    from (Some ps) = refl

drop_word : (ws : List (List ℕ)) (i : ℕ) (w : List ℕ) → i < length ws → w ≡ get_or ws i w → drop i ws ≡ w ∷ drop (suc i) ws
drop_word [] i w h e = absurd (omega arith)
drop_word (v ∷ ws) zero w h e = ap (λ k. k ∷ ws) (sym e)
drop_word (v ∷ ws) (suc i) w h e = drop_word ws i w (omega arith) e

drop_here : (ws : List (List ℕ)) (i : ℕ) (w : List ℕ) → i < length ws → w ≡ get_or ws i w → drop i ws ≡ w ∷ drop (i + 1) ws
drop_here ws i w h e = drop_word ws i w h e ∙ ap (λ k. w ∷ drop k ws) (sym (add-one i))

after_one : (ps : List Port) (p : Port) (o : Option (List Port)) → on (on o (λ qs. Some (p ∷ qs))) (λ qs. Some (ps ++ qs)) ≡ on o (λ qs. Some ((ps ++ p ∷ []) ++ qs))
after_one ps p None = refl
after_one ps p (Some qs) = ap Some (sym (append_assoc ps (p ∷ []) qs))

-- one port more
pub ports_more : (ws : List (List ℕ)) (i : ℕ) (w bytes : List ℕ) (ps new : List Port) (p : Port) → i < length ws → w ≡ get_or ws i w → bytes ≡ w → Some p ≡ port_from bytes → new ≡ ps ++ p ∷ [] → ports_after ps (drop i ws) ≡ ports_from ws → ports_after new (drop (i + 1) ws) ≡ ports_from ws
ports_more ws i w bytes ps new p h item b read n so_far =
    ap (λ (l : List Port). ports_after l (drop (i + 1) ws)) n
    ∙ sym (after_one ps p (ports_from (drop (i + 1) ws)))
    ∙ sym (ap (λ o. on (on o (λ p. on (ports_from (drop (i + 1) ws)) (λ qs. Some (p ∷ qs)))) (λ qs. Some (ps ++ qs))) (sym (read ∙ ap port_from b)))
    ∙ ap (ports_after ps) (sym (drop_here ws i w h item))
    ∙ so_far

pub ports_none : (ws : List (List ℕ)) (i : ℕ) (w bytes : List ℕ) (ps : List Port) → i < length ws → w ≡ get_or ws i w → bytes ≡ w → None ≡ port_from bytes → ports_after ps (drop i ws) ≡ ports_from ws → None ≡ ports_from ws
ports_none ws i w bytes ps h item b read so_far =
    sym (sym so_far ∙ ap (ports_after ps) (drop_here ws i w h item) ∙ ap (λ o. on (on o (λ p. on (ports_from (drop (i + 1) ws)) (λ qs. Some (p ∷ qs)))) (λ qs. Some (ps ++ qs))) (sym (read ∙ ap port_from b)))

pub ports_done : (ws : List (List ℕ)) (i : ℕ) (ps : List Port) → length ws ≤ i → ports_after ps (drop i ws) ≡ ports_from ws → Some ps ≡ ports_from ws
ports_done ws i ps h so_far = ap Some (sym (append-nil ps)) ∙ sym (ap (ports_after ps) (drop_all i ws h)) ∙ so_far
