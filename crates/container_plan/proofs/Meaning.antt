-- Shared containers change no word of an array, and no word that an output shows.
use Rattle.std.proofs.Common.{◌≡◌, ℕ, zero, suc, ◌+◌, ◌-◌, ◌<◌, ◌≤◌, ◌≢◌, ◌⊎◌, inl, inr, List, [], ◌∷◌, ◌++◌, length, length-append, map, replicate, set, flat_map, refl, sym, ap, ◌∙◌, subst, arith, get_or-set_other}
use Rattle.std.proofs.lemmas.Bool.{cases_eq, cases_lt}
use Rattle.std.proofs.lemmas.List.{length-replicate, length-set}
use Rattle.std.specs.Prelude.{slice_index}
use Rattle.std.specs.List.{AllByRecursion as Every}
use Rattle.dom_words.specs.State.{Hash, Outcome}
use Rattle.atom_traits.specs.declared.tree.Port.{Port}
use Rattle.atom_traits.specs.declared.tree.Port.TheVariants as port
use Rattle.atom_traits.specs.Form.{port_word}
use Rattle.atom_traits.specs.Renamed.{port_renamed}
use Rattle.banzai_config.specs.Action.{AloneOutcome, Arrays, Export, alone_from, atom_exports, atom_writes, entering, leaving, outcome_of, put, stage_exports, stage_writes, store, through_stages}
use Rattle.banzai_config.specs.Named.{port_reads, reads_of, stage_targets, targets_of}
use Rattle.banzai_config.specs.Parts.{Atom, PartsForm, StageForm, atoms_of}
use Rattle.banzai_config.specs.Stages.{stage_reads}
use Rattle.container_plan.specs.Facts.{IsIn}
use Rattle.container_plan.specs.Renamed.{atom_renamed, stage_renamed}
use Rattle.container_plan.specs.Spans.{number_in}
use Rattle.container_plan.specs.Shared.{depth, made, outputs_read, last, all_taken, container_of, shared}
use Rattle.container_plan.proofs.Agreed.{IsNarrow, Same, export_renamed, exported_same, exports_to, stored_same, target_of}
use Rattle.container_plan.proofs.Apart.{is_value, names_apart, field_own, name_within, spans, reads_values, target_values}
use Rattle.container_plan.proofs.Every.{Every-left, Every-right}
use Rattle.container_plan.proofs.Made.{every_at, every_from, AreMade, AreLast, AreSpans}
use Rattle.container_plan.proofs.Renaming.{atoms_renamed, map-append}
use Rattle.container_plan.proofs.Rules.{all_targets, IsLegalOne}

length-put : (es : List Export) (words : List ℕ) → length (put es words) ≡ length words
length-put [] words = refl
length-put (e ∷ es) words = length-put es (set words e.to e.word) ∙ length-set words e.to e.word

index_set : (words : List ℕ) (c w : ℕ) → c < length words → slice_index (set words c w) c ≡ w
index_set [] c w h = absurd (omega arith)
index_set (x ∷ words) zero w h = refl
index_set (x ∷ words) (suc c) w h = index_set words c w (omega arith)

-- what exports under new names put into the new container of v is what they put into v, where each of them names v, or another new container than v
put_renamed : (name : ℕ → ℕ) (es : List Export) (words others : List ℕ) (v : ℕ) → v < length words → name v < length others
    → Every (λ (e : Export). (e.to ≡ v) ⊎ (name e.to ≢ name v)) es → (slice_index others (name v) ≡ slice_index words v) ⊎ IsIn v (map target_of es)
    → slice_index (put (map (export_renamed name) es) others) (name v) ≡ slice_index (put es words) v
put_renamed name [] words others v hw ho p (inl same) = same
put_renamed name [] words others v hw ho p (inr i) = absurd i
put_renamed name (e ∷ es) words others v hw ho p start =
    put_renamed name es (set words e.to e.word) (set others (name e.to) e.word) v (omega (arith, length-set words e.to e.word)) (omega (arith, length-set others (name e.to) e.word)) p.1 (next p.0 start)
  where
    next : (e.to ≡ v) ⊎ (name e.to ≢ name v) → (slice_index others (name v) ≡ slice_index words v) ⊎ IsIn v (map target_of (e ∷ es))
        → (slice_index (set others (name e.to) e.word) (name v) ≡ slice_index (set words e.to e.word) v) ⊎ IsIn v (map target_of es)
    next (inl is) s = inl (subst (λ z. slice_index (set others (name z) e.word) (name v) ≡ slice_index (set words z e.word) v) (sym is) (index_set others (name v) e.word ho ∙ sym (index_set words v e.word hw)))
    next (inr ne) (inl same) = inl (get_or-set_other others (name e.to) (name v) e.word 0 (λ is. ne (sym is)) ∙ same ∙ sym (get_or-set_other words e.to v e.word 0 (λ is. ne (ap name (sym is)))))
    next (inr ne) (inr (inl is)) = absurd (ne (ap name (sym is)))
    next (inr ne) (inr (inr i)) = inr i

-- atoms with two slots at most
abbrev pub AreNarrow : StageForm → Type 0
AreNarrow s = Every IsNarrow (atoms_of s)

module _ (hash : Hash) where
  module _ (name : ℕ → ℕ) (arrays : Arrays) (words others : List ℕ) where
    writes_same : (atoms : List Atom) → Same name words others (flat_map reads_of atoms)
        → flat_map (λ a. atom_writes a arrays others) (map (atom_renamed name) atoms) ≡ flat_map (λ a. atom_writes a arrays words) atoms
    writes_same [] q = refl
    writes_same (a ∷ atoms) q =
        let mine : atom_writes (atom_renamed name a) arrays others ≡ atom_writes a arrays words = stored_same name words others a arrays (Every-left _ (reads_of a) (flat_map reads_of atoms) q) in
        let rest : flat_map (λ a. atom_writes a arrays others) (map (atom_renamed name) atoms) ≡ flat_map (λ a. atom_writes a arrays words) atoms = writes_same atoms (Every-right _ (reads_of a) (flat_map reads_of atoms) q) in
        ap (λ z. z ++ flat_map (λ a. atom_writes a arrays others) (map (atom_renamed name) atoms)) mine ∙ ap (λ z. atom_writes a arrays words ++ z) rest

    exports_same : (atoms : List Atom) → Same name words others (flat_map reads_of atoms)
        → flat_map (λ a. atom_exports hash a arrays others) (map (atom_renamed name) atoms) ≡ map (export_renamed name) (flat_map (λ a. atom_exports hash a arrays words) atoms)
    exports_same [] q = refl
    exports_same (a ∷ atoms) q =
        let mine : atom_exports hash (atom_renamed name a) arrays others ≡ map (export_renamed name) (atom_exports hash a arrays words) = exported_same name words others hash a arrays (Every-left _ (reads_of a) (flat_map reads_of atoms) q) in
        let rest : flat_map (λ a. atom_exports hash a arrays others) (map (atom_renamed name) atoms) ≡ map (export_renamed name) (flat_map (λ a. atom_exports hash a arrays words) atoms) = exports_same atoms (Every-right _ (reads_of a) (flat_map reads_of atoms) q) in
        ap (λ z. z ++ flat_map (λ a. atom_exports hash a arrays others) (map (atom_renamed name) atoms)) mine ∙ ap (λ z. map (export_renamed name) (atom_exports hash a arrays words) ++ z) rest
        ∙ sym (map-append (export_renamed name) (atom_exports hash a arrays words) (flat_map (λ a. atom_exports hash a arrays words) atoms))

    stage_stored : (s : StageForm) → Same name words others (stage_reads s) → stage_writes (stage_renamed name s) arrays others ≡ stage_writes s arrays words
    stage_stored s q = ap (λ (atoms : List Atom). flat_map (λ a. atom_writes a arrays others) atoms) (atoms_renamed name s) ∙ writes_same (atoms_of s) q

    stage_exported : (s : StageForm) → Same name words others (stage_reads s) → stage_exports hash (stage_renamed name s) arrays others ≡ map (export_renamed name) (stage_exports hash s arrays words)
    stage_exported s q = ap (λ (atoms : List Atom). flat_map (λ a. atom_exports hash a arrays others) atoms) (atoms_renamed name s) ∙ exports_same (atoms_of s) q

  all_exports_to : (atoms : List Atom) (arrays : Arrays) (words : List ℕ) → Every IsNarrow atoms → map target_of (flat_map (λ a. atom_exports hash a arrays words) atoms) ≡ flat_map targets_of atoms
  all_exports_to [] arrays words p = refl
  all_exports_to (a ∷ atoms) arrays words p =
      map-append target_of (atom_exports hash a arrays words) (flat_map (λ a. atom_exports hash a arrays words) atoms)
      ∙ ap (λ z. z ++ map target_of (flat_map (λ a. atom_exports hash a arrays words) atoms)) (exports_to hash a arrays words p.0)
      ∙ ap (λ z. targets_of a ++ z) (all_exports_to atoms arrays words p.1)

  module _ (parts : PartsForm) (legal : IsLegalOne parts) where
    abbrev name_of : ℕ → ℕ
    name_of v = container_of parts v

    abbrev mk : ℕ → ℕ
    mk v = made parts v

    abbrev lt : ℕ → ℕ
    lt v = last parts v

    -- behind stage k: each value that is live there stands in its new container
    pub record AreHeld (k : ℕ) (words others : List ℕ) : Type 0 where
      pub long : length words ≡ parts.containers
      pub other_long : length others ≡ number_in (all_taken parts)
      pub held : (v : ℕ) → v < parts.containers → mk v ≤ depth parts → mk v ≤ k → k ≤ lt v → slice_index others (name_of v) ≡ slice_index words v

    abbrev Values : List ℕ → Type 0
    Values cs = Every (λ c. (c < parts.containers) × (mk c ≤ depth parts)) cs

    -- one stage
    stage_held : (k : ℕ) (s : StageForm) (arrays : Arrays) (words others : List ℕ) → AreHeld k words others → AreNarrow s
        → Every (λ r. mk r ≤ k) (stage_reads s) → Every (λ w. mk w ≡ suc k) (stage_targets s) → ((v : ℕ) → mk v ≡ suc k → IsIn v (stage_targets s))
        → Every (λ r. suc k ≤ lt r) (stage_reads s) → Values (stage_reads s) → Values (stage_targets s)
        → (store (stage_writes (stage_renamed name_of s) arrays others) arrays ≡ store (stage_writes s arrays words) arrays)
        × AreHeld (suc k) (put (stage_exports hash s arrays words) words) (put (stage_exports hash (stage_renamed name_of s) arrays others) others)
    stage_held k s arrays words others h p early here all used rv wv =
        let rs : List ℕ = stage_reads s in
        let ws : List ℕ = stage_targets s in
        let es : List Export = stage_exports hash s arrays words in
        let es' : List Export = stage_exports hash (stage_renamed name_of s) arrays others in
        let same : Same name_of words others rs = every_from (λ c. slice_index others (name_of c) ≡ slice_index words c) rs (λ c i.
        let v = every_at (λ c. (c < parts.containers) × (mk c ≤ depth parts)) c rs rv i in
        let a : mk c ≤ k = every_at (λ r. mk r ≤ k) c rs early i in
        let b : suc k ≤ lt c = every_at (λ r. suc k ≤ lt r) c rs used i in
        h.held c v.0 v.1 a (omega arith)) in
        let is : es' ≡ map (export_renamed name_of) es = stage_exported name_of arrays words others s same in
        let to : map target_of es ≡ ws = all_exports_to (atoms_of s) arrays words p in
        let now : (v : ℕ) → v < parts.containers → mk v ≤ depth parts → mk v ≤ suc k → suc k ≤ lt v → slice_index (put (map (export_renamed name_of) es) others) (name_of v) ≡ slice_index (put es words) v =
        λ v low value m l.
        let away : (u : ℕ) → IsIn u ws → (u ≡ v) ⊎ (name_of u ≢ name_of v) = λ u i.
        let x = every_at (λ c. (c < parts.containers) × (mk c ≤ depth parts)) u ws wv i in
        let e : mk u ≡ suc k = every_at (λ w. mk w ≡ suc k) u ws here i in
        elim (cases_eq u v) [
          | inl e' ↦ inl e'
          | inr ne ↦ inr (names_apart parts legal (suc k) u v x.0 low x.1 value ne (omega arith) (omega (arith, (spans parts legal).short u)) m l)
        ] in
        let each : Every (λ (e : Export). (e.to ≡ v) ⊎ (name_of e.to ≢ name_of v)) es = from_targets v es (subst (λ (cs : List ℕ). Every (λ u. (u ≡ v) ⊎ (name_of u ≢ name_of v)) cs) (sym to) (every_from (λ u. (u ≡ v) ⊎ (name_of u ≢ name_of v)) ws away)) in
        put_renamed name_of es words others v (omega (arith, h.long)) (omega (arith, h.other_long, name_within parts legal v low value)) each
        (elim (cases_eq (mk v) (suc k)) [
          | inl e ↦ inr (subst (λ (cs : List ℕ). IsIn v cs) (sym to) (all v e))
          | inr ne ↦ inl (h.held v low value (omega arith) (omega arith))
        ]) in (
          ap (λ z. store z arrays) (stage_stored name_of arrays words others s same),
          record {
            long = length-put es words ∙ h.long;
            other_long = length-put es' others ∙ h.other_long;
            held = λ v low value m l. ap (λ z. slice_index (put z others) (name_of v)) is ∙ now v low value m l;
          },
        )
      where
        from_targets : (v : ℕ) (xs : List Export) → Every (λ u. (u ≡ v) ⊎ (name_of u ≢ name_of v)) (map target_of xs) → Every (λ (e : Export). (e.to ≡ v) ⊎ (name_of e.to ≢ name_of v)) xs
        from_targets v [] q = tt
        from_targets v (x ∷ xs) q = (q.0, from_targets v xs q.1)

    -- all stages from k on
    stages_held : (k : ℕ) (ss : List StageForm) (arrays : Arrays) (words others : List ℕ) → AreHeld k words others → Every AreNarrow ss
        → AreMade (length parts.fields) mk lt k ss → AreLast (length parts.fields) mk lt k ss → Every (λ s. Values (stage_reads s)) ss → Values (all_targets ss)
        → ((through_stages hash (map (stage_renamed name_of) ss) arrays others).arrays ≡ (through_stages hash ss arrays words).arrays)
        × AreHeld (k + length ss) (through_stages hash ss arrays words).words (through_stages hash (map (stage_renamed name_of) ss) arrays others).words
    stages_held k [] arrays words others h p m l rv wv = (refl, subst (λ n. AreHeld n words others) (omega arith) h)
    stages_held k (s ∷ ss) arrays words others h p m l rv wv =
        let mine : List ℕ = stage_targets s in
        let rest : List ℕ = all_targets ss in
        let one = stage_held k s arrays words others h p.0 m.0 m.1 m.2 l.0 rv.0 (Every-left _ mine rest wv) in
        let a1 : Arrays = store (stage_writes s arrays words) arrays in
        let w1 : List ℕ = (put (stage_exports hash s arrays words) words) in
        let o1 : List ℕ = (put (stage_exports hash (stage_renamed name_of s) arrays others) others) in
        let then = stages_held (suc k) ss a1 w1 o1 one.1 p.1 m.3 l.1 rv.1 (Every-right _ mine rest wv) in
        let number : suc k + length ss ≡ k + suc (length ss) = omega arith in
        let ss' : List StageForm = map (stage_renamed name_of) ss in
        subst (λ (a : Arrays). ((through_stages hash ss' a o1).arrays ≡ (through_stages hash ss a1 w1).arrays) × AreHeld (k + suc (length ss)) (through_stages hash ss a1 w1).words (through_stages hash ss' a o1).words)
        (sym one.0) (then.0, subst (λ n. AreHeld n (through_stages hash ss a1 w1).words (through_stages hash ss' a1 o1).words) number then.1)

    -- both runs begin with the fields' words in the fields' containers
    pub entered_held : (words others : List ℕ) → length words ≡ parts.containers → length others ≡ number_in (all_taken parts)
        → ((v : ℕ) → v < (length parts.fields) → slice_index others v ≡ slice_index words v) → AreHeld 0 words others
    entered_held words others long other_long same = record {
      long = long;
      other_long = other_long;
      held = λ v low value m l. elim (cases_lt v (length parts.fields)) [
        | inl f ↦ ap (slice_index others) (field_own parts legal v f) ∙ same v f
        | inr above ↦ absurd (omega (arith, (spans parts legal).later v above))
      ];
    }

    -- the same arrays and the same outputs behind all stages
    pub record IsSameRun (arrays : Arrays) (words others : List ℕ) : Type 0 where
      pub arrays_same : (through_stages hash (shared parts).stages arrays others).arrays ≡ (through_stages hash parts.stages arrays words).arrays
      pub outputs_same : map (λ o. port_word o (through_stages hash (shared parts).stages arrays others).words) (shared parts).outputs
          ≡ map (λ o. port_word o (through_stages hash parts.stages arrays words).words) parts.outputs

    pub shared_run : Every AreNarrow parts.stages → (arrays : Arrays) (words others : List ℕ) → AreHeld 0 words others → IsSameRun arrays words others
    shared_run p arrays words others start =
        let sp : AreSpans parts = spans parts legal in
        let done = stages_held 0 parts.stages arrays words others start p sp.stages sp.used
        (reads_values parts legal [] parts.stages (λ c i. absurd i) (λ c i. i) legal.readable.earlier) (target_values parts legal) in
        let n : ℕ = depth parts in
        let end : AreHeld (0 + n) (through_stages hash parts.stages arrays words).words (through_stages hash (map (stage_renamed name_of) parts.stages) arrays others).words = done.1 in
        record {
          arrays_same = done.0;
          outputs_same = ports (through_stages hash parts.stages arrays words).words (through_stages hash (map (stage_renamed name_of) parts.stages) arrays others).words parts.outputs
              (every_from (λ c. slice_index (through_stages hash (map (stage_renamed name_of) parts.stages) arrays others).words (name_of c) ≡ slice_index (through_stages hash parts.stages arrays words).words c) (outputs_read parts)
              (λ c i.
              let v = is_value parts legal c (every_at (λ c. (c < (length parts.fields)) ⊎ IsIn c (all_targets parts.stages)) c (outputs_read parts) legal.readable.shown i) in
              end.held c v.0 v.1 (omega (arith, v.1)) (omega (arith, sp.shown c i))));
        }
      where
        ports : (ws os : List ℕ) (ps : List Port) → Every (λ c. slice_index os (name_of c) ≡ slice_index ws c) (flat_map port_reads ps) → map (λ o. port_word o os) (map (port_renamed name_of) ps) ≡ map (λ o. port_word o ws) ps
        ports ws os [] q = refl
        ports ws os (port.Const w ∷ ps) q = ap (λ z. w ∷ z) (ports ws os ps q)
        ports ws os (port.Container c ∷ ps) q = ap (λ z. z ∷ map (λ o. port_word o os) (map (port_renamed name_of) ps)) q.0 ∙ ap (λ z. slice_index ws c ∷ z) (ports ws os ps q.1)

    front_word : (xs ys : List ℕ) (c : ℕ) → c < length xs → slice_index (xs ++ ys) c ≡ slice_index xs c
    front_word [] ys c h = absurd (omega arith)
    front_word (x ∷ xs) ys zero h = refl
    front_word (x ∷ xs) ys (suc c) h = front_word xs ys c (omega arith)

    length-entering : (p : PartsForm) (packet : List ℕ) → length packet ≤ p.containers → length (entering p packet) ≡ p.containers
    length-entering p packet h =
        let n : ℕ = p.containers - length packet in
        let sum : length packet + n ≡ p.containers = omega arith in
        omega (arith, length-append packet (replicate n 0), length-replicate {A = ℕ} n 0, sum)

    module _ (narrow : Every AreNarrow parts.stages) (room : length parts.fields ≤ (shared parts).containers) where
      -- one packet through all stages and the outputs
      pub one_same : (arrays : Arrays) (packet : List ℕ) → length packet ≡ length parts.fields → outcome_of hash (shared parts) arrays packet ≡ outcome_of hash parts arrays packet
      one_same arrays packet long =
          let start : AreHeld 0 (entering parts packet) (entering (shared parts) packet) =
          entered_held (entering parts packet) (entering (shared parts) packet) (length-entering parts packet (omega (arith, long, legal.readable.entered))) (length-entering (shared parts) packet (omega (arith, long, room)))
          (λ v h. front_word packet (replicate ((shared parts).containers - length packet) 0) v (omega (arith, long)) ∙ sym (front_word packet (replicate (parts.containers - length packet) 0) v (omega (arith, long)))) in
          let run : IsSameRun arrays (entering parts packet) (entering (shared parts) packet) = shared_run narrow arrays (entering parts packet) (entering (shared parts) packet) start in
          both (leaving (shared parts) (through_stages hash (shared parts).stages arrays (entering (shared parts) packet)).words) (leaving parts (through_stages hash parts.stages arrays (entering parts packet)).words)
          (through_stages hash (shared parts).stages arrays (entering (shared parts) packet)).arrays (through_stages hash parts.stages arrays (entering parts packet)).arrays run.outputs_same run.arrays_same
        where
          both : (a b : List ℕ) (c d : Arrays) → a ≡ b → c ≡ d → (let o : Outcome = record { packet = a; arrays = c } in o) ≡ record { packet = b; arrays = d }
          both a b c d e f = ap (λ x. let o : Outcome = record { packet = x; arrays = c } in o) e ∙ ap (λ x. let o : Outcome = record { packet = b; arrays = x } in o) f

      abbrev step : List ℕ → AloneOutcome → AloneOutcome
      step packet rest = record { packets = packet ∷ rest.packets; arrays = rest.arrays }

      -- one packet after another
      pub alone_same : (arrays : Arrays) (packets : List (List ℕ)) → Every (λ packet. length packet ≡ length parts.fields) packets → alone_from hash (shared parts) arrays packets ≡ alone_from hash parts arrays packets
      alone_same arrays [] p = refl
      alone_same arrays (packet ∷ packets) p =
          let here : outcome_of hash (shared parts) arrays packet ≡ outcome_of hash parts arrays packet = one_same arrays packet p.0 in
          let one : Outcome = outcome_of hash parts arrays packet in
          let rest : alone_from hash (shared parts) one.arrays packets ≡ alone_from hash parts one.arrays packets = alone_same one.arrays packets p.1 in
          ap (λ (o : Outcome). step o.packet (alone_from hash (shared parts) o.arrays packets)) here ∙ ap (λ (r : AloneOutcome). step one.packet r) rest
