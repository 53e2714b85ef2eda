-- Stages that own different arrays are apart, and one cycle of all of them is each one's own doing.
use Rattle.std.proofs.Common.{◌≡◌, ℕ, Option, Some, None, List, [], ◌∷◌, ◌++◌, refl, sym, ◌∙◌, ap, ◌≢◌}
use Rattle.std.specs.List.{flat_map, AllByRecursion as Every}
use Rattle.dom_words.specs.State.{Hash, array_of}
use Rattle.pipeline_law.specs.Stage.{AreApart, Clocked, IsLocal, Leaves}
use Rattle.pipeline_law.specs.Pipeline.{IsFeedForward}
use Rattle.banzai_config.specs.Action.{Arrays, Export, Write, acts, put, stage_writes, store}
use Rattle.banzai_config.specs.Named.{stage_arrays}
use Rattle.banzai_config.specs.Parts.{PartsForm, StageForm}
use Rattle.banzai_machine.specs.Own.{OwnArrays}
use Rattle.banzai_machine.specs.Pipe.{clocked, cycle_writes, own, pipeline, writes_before}
use Rattle.banzai_machine.proofs.Every.{Every-append, Every-weaker, Every-always, Every-swap, Every-flat, map_same, same_map, distinct_left, distinct_right}
use Rattle.banzai_machine.proofs.Store.{Agree, store-append, store-other, store-same, stage_writes-same, stage_exports-same, stage_writes-arrays}

module _ (hash : Hash) where
  pub own-agree : (stage : StageForm) (a b : Arrays) → own stage a ≡ own stage b → Agree a b (stage_arrays stage)
  own-agree stage a b e = same_map (λ k. array_of a k) (λ k. array_of b k) (stage_arrays stage) e

  agree-own : (stage : StageForm) (a b : Arrays) → Agree a b (stage_arrays stage) → own stage a ≡ own stage b
  agree-own stage a b p = map_same (λ k. array_of a k) (λ k. array_of b k) (stage_arrays stage) p

  -- the same writes on two states in which the stage owns the same
  own-store : (stage : StageForm) (ws : List Write) (a b : Arrays) → own stage a ≡ own stage b → own stage (store ws a) ≡ own stage (store ws b)
  own-store stage ws a b e =
      agree-own stage (store ws a) (store ws b)
      (Every-weaker (λ k. array_of a k ≡ array_of b k) (λ k. array_of (store ws a) k ≡ array_of (store ws b) k) (λ k h. store-same ws a b k h) (stage_arrays stage) (own-agree stage a b e))

  -- writes that miss a stage's arrays
  abbrev pub Misses : List Write → StageForm → Type 0
  Misses ws stage = Every (λ k. Every (λ (w : Write). w.array ≢ k) ws) (stage_arrays stage)

  own-missed : (stage : StageForm) (ws : List Write) (a : Arrays) → Misses ws stage → own stage (store ws a) ≡ own stage a
  own-missed stage ws a p =
      agree-own stage (store ws a) a
      (Every-weaker (λ k. Every (λ (w : Write). w.array ≢ k) ws) (λ k. array_of (store ws a) k ≡ array_of a k) (λ k h. store-other ws a k h) (stage_arrays stage) p)

  -- two stages with no array in common
  abbrev pub NoneShared : StageForm → StageForm → Type 0
  NoneShared s t = Every (λ k. Every (λ j. j ≢ k) (stage_arrays s)) (stage_arrays t)

  shared_swap : (s t : StageForm) → NoneShared s t → NoneShared t s
  shared_swap s t p =
      Every-weaker (λ j. Every (λ k. j ≢ k) (stage_arrays t)) (λ j. Every (λ k. k ≢ j) (stage_arrays t))
      (λ j h. Every-weaker (λ k. j ≢ k) (λ k. k ≢ j) (λ k ne e. ne (sym e)) (stage_arrays t) h)
      (stage_arrays s)
      (Every-swap (λ k j. j ≢ k) (stage_arrays t) (stage_arrays s) p)

  stage_misses : (s t : StageForm) (arrays : Arrays) (register : Option (List ℕ)) → NoneShared s t → Misses (writes_before s arrays register) t
  stage_misses s t arrays None p = Every-always (λ k. Every (λ (w : Write). w.array ≢ k) []) (λ k. tt) (stage_arrays t)
  stage_misses s t arrays (Some words) p =
      Every-weaker (λ k. Every (λ j. j ≢ k) (stage_arrays s)) (λ k. Every (λ (w : Write). w.array ≢ k) (stage_writes s arrays words))
      (λ k h. stage_writes-arrays s arrays words k h) (stage_arrays t) p

  pub acts-state : (s : StageForm) (arrays : Arrays) (register : Option (List ℕ)) → (acts hash s arrays register).0 ≡ store (writes_before s arrays register) arrays
  acts-state s arrays None = refl
  acts-state s arrays (Some words) = refl

  leaves : (s t : StageForm) → NoneShared s t → Leaves (acts hash) own s t
  leaves s t p arrays register =
      rw (acts-state s arrays register) (own-missed t (writes_before s arrays register) arrays (stage_misses s t arrays register p))

  pub writes_before-same : (s : StageForm) (a b : Arrays) (register : Option (List ℕ)) → own s a ≡ own s b → writes_before s a register ≡ writes_before s b register
  writes_before-same s a b None e = refl
  writes_before-same s a b (Some words) e = stage_writes-same s a b words (own-agree s a b e)

  pub local_out : (s : StageForm) (a b : Arrays) (register : Option (List ℕ)) → own s a ≡ own s b → (acts hash s a register).1 ≡ (acts hash s b register).1
  local_out s a b None e = refl
  local_out s a b (Some words) e = ap (λ (es : List Export). Some (put es words)) (stage_exports-same hash s a b words (own-agree s a b e))

  local_kept : (s : StageForm) (a b : Arrays) (register : Option (List ℕ)) → own s a ≡ own s b → own s (acts hash s a register).0 ≡ own s (acts hash s b register).0
  local_kept s a b None e = e
  local_kept s a b (Some words) e =
      ap (λ (ws : List Write). own s (store ws a)) (stage_writes-same s a b words (own-agree s a b e))
      ∙ own-store s (stage_writes s b words) a b e

  local : (s : StageForm) → IsLocal (acts hash) own s
  local s = record { out = local_out s; kept = local_kept s }

  -- no stage of the list shares an array with s
  abbrev pub AllUnshared : StageForm → List (StageForm) → Type 0
  AllUnshared s stages = Every (λ t. NoneShared s t) stages

  unshared : (s : StageForm) (stages : List (StageForm)) → OwnArrays (s ∷ stages) → AllUnshared s stages
  unshared s stages p =
      Every-flat (λ k. Every (λ j. j ≢ k) (stage_arrays s)) stage_arrays stages
      (Every-swap (λ j k. j ≢ k) (stage_arrays s) (flat_map stage_arrays stages) (distinct_left (stage_arrays s) (flat_map stage_arrays stages) p))

  pub apart : (stages : List (StageForm)) → OwnArrays stages → AreApart (acts hash) own stages
  apart [] p = tt
  apart (s ∷ stages) p = (
    local s,
    Every-weaker (λ t. NoneShared s t) (λ t. Leaves (acts hash) own s t × Leaves (acts hash) own t s)
        (λ t h. (leaves s t h, leaves t s (shared_swap s t h))) stages (unshared s stages p),
    apart stages (distinct_right (stage_arrays s) (flat_map stage_arrays stages) p),
  )

  -- the writes of the other stages miss s
  cycle_misses : (s : StageForm) (stages : List (StageForm)) (registers : List (Option (List ℕ))) (arrays : Arrays) → AllUnshared s stages → Misses (cycle_writes stages registers arrays) s
  cycle_misses s [] registers arrays p = Every-always (λ k. Every (λ (w : Write). w.array ≢ k) []) (λ k. tt) (stage_arrays s)
  cycle_misses s (t ∷ stages) [] arrays p = Every-always (λ k. Every (λ (w : Write). w.array ≢ k) []) (λ k. tt) (stage_arrays s)
  cycle_misses s (t ∷ stages) (register ∷ registers) arrays p =
      both (stage_arrays s) (stage_misses t s arrays register (shared_swap s t p.0)) (cycle_misses s stages registers arrays p.1)
    where
      both : (ks : List ℕ) → Every (λ k. Every (λ (w : Write). w.array ≢ k) (writes_before t arrays register)) ks
          → Every (λ k. Every (λ (w : Write). w.array ≢ k) (cycle_writes stages registers arrays)) ks
          → Every (λ k. Every (λ (w : Write). w.array ≢ k) (writes_before t arrays register ++ cycle_writes stages registers arrays)) ks
      both [] q r = tt
      both (k ∷ ks) q r = (
        Every-append (λ (w : Write). w.array ≢ k) (writes_before t arrays register) (cycle_writes stages registers arrays) q.0 r.0,
        both ks q.1 r.1,
      )

  kept_all : (s : StageForm) (register : Option (List ℕ)) (old now : Arrays) (stages : List (StageForm)) → AllUnshared s stages → Every (λ t. own t now ≡ own t old) stages
      → Every (λ t. own t (store (writes_before s old register) now) ≡ own t old) stages
  kept_all s register old now [] p same = tt
  kept_all s register old now (t ∷ stages) p same = (
    own-missed t (writes_before s old register) now (stage_misses s t old register p.0) ∙ same.0,
    kept_all s register old now stages p.1 same.1,
  )

  -- after writes that leave the parts of the stages as they are in old, these stages' writes, made on old, give each its own
  moves_from : (stages : List (StageForm)) (registers : List (Option (List ℕ))) (old now : Arrays) → OwnArrays stages → Every (λ s. own s now ≡ own s old) stages
      → Clocked (acts hash) own stages registers old (store (cycle_writes stages registers old) now)
  moves_from [] registers old now p same = tt
  moves_from (s ∷ stages) [] old now p same = tt
  moves_from (s ∷ stages) (register ∷ registers) old now p same =
      let mine : List Write = writes_before s old register in
      let rest : List Write = cycle_writes stages registers old in
      let next : Arrays = store mine now in
      let after : store (mine ++ rest) now ≡ store rest next = store-append mine rest now in
      let here : own s (store rest next) ≡ own s (acts hash s old register).0 =
      own-missed s rest next (cycle_misses s stages registers old (unshared s stages p))
      ∙ own-store s mine now old same.0
      ∙ ap (λ (a : Arrays). own s a) (sym (acts-state s old register)) in
      let kept : Every (λ t. own t next ≡ own t old) stages = kept_all s register old now stages (unshared s stages p) same.1 in
      let others : Clocked (acts hash) own stages registers old (store rest next) =
      moves_from stages registers old next (distinct_right (stage_arrays s) (flat_map stage_arrays stages) p) kept in
      rw after (here, others)

  pub moves : (stages : List (StageForm)) → OwnArrays stages → (registers : List (Option (List ℕ))) (arrays : Arrays)
      → Clocked (acts hash) own stages registers arrays (clocked stages registers arrays)
  moves stages p registers arrays = moves_from stages registers arrays arrays p (Every-always (λ s. own s arrays ≡ own s arrays) (λ s. refl) stages)

  pub idles : (stages : List (StageForm)) → Every (λ s. (arrays : Arrays) → acts hash s arrays None ≡ (arrays, None)) stages
  idles stages = Every-always (λ s. (arrays : Arrays) → acts hash s arrays None ≡ (arrays, None)) (λ s arrays. refl) stages

  pub feed_forward : (p : PartsForm) → OwnArrays p.stages → IsFeedForward (pipeline hash p)
  feed_forward p owns = record { apart = apart p.stages owns; clocked = moves p.stages owns; skips = idles p.stages }
