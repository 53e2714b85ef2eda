-- The codelets of a statement list, at planned stages, do what the list does.
use Rattle.std.proofs.Common.{◌≡◌, ℕ, ◌+◌, ◌-◌, ◌<◌, ◌≤◌, true, false, List, [], ◌∷◌, ◌++◌, Option, Some, None, length, map, refl, sym, ap, ◌∙◌, subst, arith, ◌⊎◌, inl, inr, replicate}
use Rattle.std.specs.Prelude.{slice_get, slice_index}
use Rattle.std.specs.List.{AllByRecursion as Every}
use Rattle.std.specs.Option.{option_to_list}
use Rattle.std.proofs.lemmas.List.{length-append, length-replicate}
use Rattle.dom_words.specs.Operators.{bin_word, chosen, reduced, un_word}
use Rattle.dom_words.specs.State.{Hash, array_of, fetched, stored}
use Rattle.dom_words.proofs.Stored.{stored-kept}
use Rattle.dom_flat.specs.declared.line.Operand.{Operand}
use Rattle.dom_flat.specs.declared.line.Operand.TheVariants.{Value}
use Rattle.dom_flat.specs.declared.line.Line.{Line}
use Rattle.dom_flat.specs.declared.line.Line.TheVariants as line
use Rattle.dom_flat.specs.Kept.{entered}
use Rattle.dom_flat.specs.Lines.{is_flank, operands_of, with_operands}
use Rattle.dom_flat.specs.Meaning.{operand_word, line_word, HoldTogether, arrays_after, flat_entering, flat_outcome, values_after}
use Rattle.dom_flat.proofs.Order.{AreEarlier, AreStoredOnce}
use Rattle.dom_flat.proofs.Run.{index_front, run_makes, run_arrays}
use Rattle.dom_flat.proofs.After.{after_quiet, after_stored, length-after}
use Rattle.dom_flat.proofs.Facts.{are_earlier, fetched_first, stored_once}
use Rattle.codelets.specs.declared.held.Held.{Held}
use Rattle.codelets.specs.Lists.{IsIn}
use Rattle.codelets.specs.Linked.{Linked, IsLinked, count}
use Rattle.codelets.specs.Cut.{cut, has_flank, line_of, option_line, outer, seen_by}
use Rattle.codelets.specs.Held.{exports, held, old_and_new}
use Rattle.codelets.specs.Containers.{containers, holder, place}
use Rattle.codelets.specs.Extended.{extended}
use Rattle.codelets.specs.Laws.{CodeletLaws, Source, OfConst, OfField, Own, Other, Shown, ShownConst, ShownField, ShownValue, SlotOf, WriteOf, OldOf, NewOf}
use Rattle.codelets.proofs.Given.{IsMade, used_before, shown_made}
use Rattle.codelets.proofs.AllLaws.{codelet_laws}
use Rattle.codelets.proofs.Lists.{at_within, in_flat, in_left, in_right}
use Rattle.codelets.proofs.Order.{every_at, every_from}
use Rattle.codelets.proofs.Twins.{line_low, ext_low, outer_word, seen_word}
use Rattle.atom_traits.specs.declared.operation.StatelessOp.{StatelessOp}
use Rattle.atom_traits.specs.declared.operation.StatelessOp.TheVariants as op
use Rattle.atom_traits.specs.Form.{TreeForm, TreesForm, count_if, count_of, port_word}
use Rattle.atom_traits.specs.Operation.{stateless_word}
use Rattle.atom_match.specs.Atoms.{operator_of, port_of}
use Rattle.atom_match.specs.Classes.{is_outside}
use Rattle.atom_match.specs.Meaning.{stored_word}
use Rattle.banzai_config.specs.declared.parts.PartSlot.{PartSlot}
use Rattle.banzai_config.specs.Action.{Arrays, atom_exports, atom_writes}
use Rattle.banzai_config.specs.Named.{targets_of}
use Rattle.banzai_config.specs.Parts.{Atom, Stateless, Stateful}
use Rattle.compile_law.specs.Compiled.{Staged}
use Rattle.compile_law.proofs.Front.{front}
use Rattle.compile_law.proofs.Planned.{IsPartOf, IsPlanned, Known, atoms_from}
use Rattle.compile_law.proofs.Parts.{each_line, exports_plain, exports_flank, index_source, not_outside, in_all, atom_at, back_of, exporter, field_back, knows, within, arrays_distinct, held_distinct, quiet, fields_fit}
use Rattle.compile_law.proofs.Right.{IsFed, word_of, ShowsWord, HeldRight, IsAtomRight, Feeds, single_right, group_right}
use Rattle.compile_law.proofs.Stages.{AreStaged, staged_front}

two_at_most : (t : TreesForm) → count_of t ≤ 2
two_at_most t = by_second t.second
  where
    by_second : (o : Option TreeForm) → count_if o ≤ 2
    by_second None = omega arith
    by_second (Some u) = omega arith

module _ (P : Linked) (hash : Hash) (words : List ℕ) (val : ℕ → ℕ) where
  args_right : (os : List Operand) → Every (λ o. port_word (port_of (place (cut P)) o) words ≡ operand_word o val) os → map (λ a. port_word a words) (map (port_of (place (cut P))) os) ≡ map (λ o. operand_word o val) os
  args_right [] p = refl
  args_right (o ∷ os) p = let rest : map (λ a. port_word a words) (map (port_of (place (cut P))) os) ≡ map (λ o. operand_word o val) os = args_right os p.1 in cc (p.0, rest)

  -- an operator gives the statement's word
  op_right : (l : Line) (o : StatelessOp) (arrays : Arrays) → operator_of (place (cut P)) l ≡ Some o → Every (λ x. port_word (port_of (place (cut P)) x) words ≡ operand_word x val) (operands_of l)
      → stateless_word hash o words ≡ line_word hash l arrays val
  op_right (line.Fetch a index) o arrays e p = absurd (cc)
  op_right (line.Store a index value) o arrays e p = absurd (cc)
  op_right (line.Un u a) o arrays e p =
      let is : op.Un u (port_of (place (cut P)) a) ≡ o = cc in
      ap (λ (x : StatelessOp). stateless_word hash x words) (sym is) ∙ ap (un_word u) p.0
  op_right (line.Bin u a b) o arrays e p =
      let is : op.Bin u (port_of (place (cut P)) a) (port_of (place (cut P)) b) ≡ o = cc in
      ap (λ (x : StatelessOp). stateless_word hash x words) (sym is)
      ∙ ap (λ (x : ℕ). bin_word u x (port_word (port_of (place (cut P)) b) words)) p.0 ∙ ap (λ (x : ℕ). bin_word u (operand_word a val) x) p.1.0
  op_right (line.Cond c a b) o arrays e p =
      let is : op.Cond (port_of (place (cut P)) c) (port_of (place (cut P)) a) (port_of (place (cut P)) b) ≡ o = cc in
      ap (λ (x : StatelessOp). stateless_word hash x words) (sym is)
      ∙ ap (λ (x : ℕ). chosen x (port_word (port_of (place (cut P)) a) words) (port_word (port_of (place (cut P)) b) words)) p.0
      ∙ ap (λ (x : ℕ). chosen (operand_word c val) x (port_word (port_of (place (cut P)) b) words)) p.1.0
      ∙ ap (λ (x : ℕ). chosen (operand_word c val) (operand_word a val) x) p.1.1.0
  op_right (line.Hash unit modulus args) o arrays e p =
      let is : op.Hash unit modulus (map (port_of (place (cut P))) args) ≡ o = cc in
      ap (λ (x : StatelessOp). stateless_word hash x words) (sym is) ∙ ap (λ (ws : List ℕ). reduced modulus (hash unit ws)) (args_right args p)

-- a statement that is no flank looks at no array
no_arrays : (hash : Hash) (l : Line) (a b : Arrays) (val : ℕ → ℕ) → is_flank l ≡ false → line_word hash l a val ≡ line_word hash l b val
no_arrays hash (line.Fetch c index) a b val e = absurd (cc)
no_arrays hash (line.Store c index value) a b val e = absurd (cc)
no_arrays hash (line.Un op x) a b val e = refl
no_arrays hash (line.Bin op x y) a b val e = refl
no_arrays hash (line.Cond c x y) a b val e = refl
no_arrays hash (line.Hash unit modulus args) a b val e = refl

module _ (P : Linked) (ok : IsLinked P) (hash : Hash) (before : Arrays) (packet : List ℕ) (size_is : length packet ≡ P.fields) where
  laws : CodeletLaws P
  laws = codelet_laws P ok

  abbrev base : ℕ → ℕ
  base = values_after hash (flat_entering packet before) P.lines

  -- the words of all values, twins included
  abbrev val : ℕ → ℕ
  val = extended P.fields (count P) base

  abbrev after : Arrays
  after = arrays_after P.lines before base

  earlier : AreEarlier (length packet) P.lines
  earlier =
      let size : length (entered P.fields) ≡ P.fields = length-replicate P.fields true in
      subst (λ (n : ℕ). AreEarlier n P.lines) (size ∙ sym size_is) (are_earlier (entered P.fields) P.lines ok.order)

  once : AreStoredOnce P.lines
  once = stored_once [] [] P.lines ok.flanks

  makes : HoldTogether hash P.lines before packet base
  makes = run_makes hash P.lines packet before earlier (fetched_first [] [] P.lines ok.flanks)

  law : (b : ℕ) (l : Line) → line_of (cut P) b ≡ Some l → val (P.fields + b) ≡ line_word hash l before val
  law = laws.lines hash before packet base size_is makes

  -- an operand from outside stands at its port
  port_fed : (c words : List ℕ) → IsFed P val before after c words → (o : Operand) → Source P c o → ((a : ℕ) → o ≡ Value (P.fields + a) → IsIn a c → ⊥) → port_word (port_of (place (cut P)) o) words ≡ operand_word o val
  port_fed c words fed o (OfConst w e) none = subst (λ (x : Operand). port_word (port_of (place (cut P)) x) words ≡ operand_word x val) (sym e) refl
  port_fed c words fed o (OfField v e h) none = subst (λ (x : Operand). port_word (port_of (place (cut P)) x) words ≡ operand_word x val) (sym e) (fed v (inl h))
  port_fed c words fed o (Own a e i) none = absurd (none a e i)
  port_fed c words fed o (Other d v e i uses x) none = subst (λ (x : Operand). port_word (port_of (place (cut P)) x) words ≡ operand_word x val) (sym e) (fed v (inr (d, i, uses, x)))

  held_right : (c : List ℕ) (h : Held) → IsIn c (cut P).all → IsIn h (held (cut P) c) → has_flank (cut P) c ≡ true → is_outside P.fields c h.index ≡ true → HeldRight P val before after c h
  held_right c h ci hi flank outside = record {
    index = λ words fed. port_fed c words fed h.index (index_source P laws c h ci hi)
        (λ a e i. let own : is_outside P.fields c h.index ≡ false = ap (is_outside P.fields c) e ∙ not_outside P c a i in cc (own, outside));
    read = read;
    old = shows_old h.old refl s.olds;
    new = shows_new h.new refl s.news;
    left = left h.write s.writes;
  }
    where
      s : SlotOf P c h
      s = laws.slots c h ci hi

      its : Line
      its = line.Fetch h.array (seen_by (cut P) s.at s.index_of)

      line_at : line_of (cut P) s.at ≡ Some its
      line_at = line_low (cut P) s.at (at_within P.lines s.at (line.Fetch h.array s.index_of) s.fetch) ∙ ap (option_line (with_operands (seen_by (cut P) s.at))) s.fetch

      below : (j u : ℕ) (l : Line) (o : Operand) → slice_get P.lines j ≡ Some l → IsIn o (operands_of l) → o ≡ Value u → u < P.fields + count P
      below j u l o at i is =
          let b : u < P.fields + j = used_before P ok j u l at (subst (λ (x : Operand). IsIn x (operands_of l)) is i) in
          let n : j < count P = at_within P.lines j l at in
          omega arith

      index_is : operand_word h.index val ≡ operand_word s.index_of base
      index_is = ap (λ (o : Operand). operand_word o val) s.port ∙ seen_word (cut P) base s.at s.index_of (λ u is. below s.at u (line.Fetch h.array s.index_of) s.index_of s.fetch (inl refl) is)

      read : val h.read ≡ fetched before h.array (operand_word h.index val)
      read = ap val s.reads ∙ law s.at its line_at ∙ ap (λ (o : Operand). fetched before h.array (operand_word o val)) (sym s.port)

      exported_here : (v : ℕ) → IsIn v (old_and_new h) → holder (cut P) (place (cut P) v) ≡ v
      exported_here v i =
          let there : IsIn v (exports (cut P) c) = subst (λ (vs : List ℕ). IsIn v vs) (sym (exports_flank P c flank)) (in_flat old_and_new (held (cut P) c) h v hi i) in
          (laws.placed v (laws.export_has c v ci there)).back

      shows_old : (to : Option ℕ) → h.old ≡ to → OldOf P to h.read → ShowsWord P val before after to (val h.read)
      shows_old None e q = tt
      shows_old (Some v) e q = (exported_here v (in_left (option_to_list h.old) (option_to_list h.new) v (subst (λ (o : Option ℕ). IsIn v (option_to_list o)) (sym e) (inl refl))), ap val q)

      shows_new : (to : Option ℕ) → h.new ≡ to → NewOf P to h.write → ShowsWord P val before after to (word_of P val before after h)
      shows_new None e q = tt
      shows_new (Some v) e q = (
        exported_here v (in_right (option_to_list h.old) (option_to_list h.new) v (subst (λ (o : Option ℕ). IsIn v (option_to_list o)) (sym e) (inl refl))),
        sym (ap (λ (w : Option Operand). stored_word w h.read val) q),
      )

      left : (w : Option Operand) → WriteOf P h.array s.index_of w → array_of after h.array ≡ array_of (stored before h.array (operand_word h.index val) (stored_word w h.read val)) h.array
      left None none =
          after_quiet base P.lines before h.array (each_line _ P.lines none)
          ∙ sym (stored-kept before h.array (operand_word h.index val))
          ∙ ap (λ (x : ℕ). array_of (stored before h.array (operand_word h.index val) x) h.array) (sym read)
      left (Some o) (j, v, at, is) =
          let word : operand_word o val ≡ operand_word v base = ap (λ (q : Operand). operand_word q val) is ∙ seen_word (cut P) base j v (λ u e. below j u (line.Store h.array s.index_of v) v at (inr (inl refl)) e) in
          after_stored base P.lines before j h.array s.index_of v once at
          ∙ ap (λ (i : ℕ). array_of (stored before h.array i (operand_word v base)) h.array) (sym index_is)
          ∙ ap (λ (x : ℕ). array_of (stored before h.array (operand_word h.index val) x) h.array) (sym word)

  module _ (depth : ℕ) (qs : List (Staged)) (plan : IsPlanned P depth qs) (size : ℕ) (room : containers (cut P) ≤ size) where
    abbrev K : ℕ → ℕ → Type 0
    K = Known P.fields qs

    atom_right : (q : Staged) → IsIn q qs → IsAtomRight P val before after hash size K (q.stage - 1) q.atom
    atom_right q i = by_atom q.atom (atom_at P laws depth qs plan q i) (within P laws depth qs plan size room q i)
      where
        c : List ℕ
        c = q.members

        ci : IsIn c (cut P).all
        ci = in_all P laws depth qs plan q i

        feeds : Feeds P val before after hash size K (q.stage - 1) c
        feeds = λ words ready v en. let k = knows P laws depth qs plan q i v en in ready (place (cut P) v) k.1 ∙ ap val k.0

        by_atom : (atom : Atom) → IsPartOf P c atom → Every (λ d. d < size) (targets_of atom) → IsAtomRight P val before after hash size K (q.stage - 1) atom
        by_atom (Stateless a) (is, to_is) fits =
            let b : ℕ = is.number in
            let exported : IsIn (P.fields + b) (exports (cut P) c) = subst (λ (vs : List ℕ). IsIn (P.fields + b) vs) (sym (exports_plain P c is.stateless ∙ ap (map (λ b. P.fields + b)) is.only)) (inl refl) in
            let inside : IsIn b c = subst (λ (d : List ℕ). IsIn b d) (sym is.only) (inl refl) in
            single_right P val before after hash size K (q.stage - 1) c a (P.fields + b) (ap (holder (cut P)) to_is ∙ back_of P laws depth qs plan c (P.fields + b) ci exported)
            (λ words fed. op_right P hash words val is.its a.op before is.operator
            (every_from (λ o. port_word (port_of (place (cut P)) o) words ≡ operand_word o val) (operands_of is.its) (λ o oi. port_fed c words fed o (laws.sources c b is.its o ci inside is.there oi)
            (λ x e xi. let less : x < b = laws.earlier c b x is.its ci inside xi is.there (subst (λ (y : Operand). IsIn y (operands_of is.its)) e oi) in
            let same : x ≡ b = lone x b (subst (λ (d : List ℕ). IsIn x d) is.only xi) in omega arith)))
            ∙ sym (law b is.its is.there))
            feeds fits.0
          where
            lone : (a b : ℕ) → IsIn a (b ∷ []) → a ≡ b
            lone a b (inl is) = is
            lone a b (inr i) = absurd i
        by_atom (Stateful a) (are, slots_are) fits =
            subst (λ (ss : List PartSlot). IsAtomRight P val before after hash size K (q.stage - 1) (Stateful (record { slots = ss; trees = a.trees }))) (sym slots_are)
            (group_right P val before after hash size K (q.stage - 1) c (held (cut P) c) a.trees
            (every_from (HeldRight P val before after c) (held (cut P) c) (λ h hi. held_right c h ci hi are.stateful (every_at (λ (g : Held). is_outside P.fields c g.index ≡ true) (held (cut P) c) h are.indexes hi)))
            few (held_distinct P laws depth qs plan c ci)
            (λ words fed. are.means hash (map (λ h. val h.read) (held (cut P) c)) words val (record { outside = fed; old = refl; made = λ b l bi at plain. law b l at ∙ no_arrays hash l before [] val plain }))
            feeds
            (subst (λ (ss : List PartSlot). Every (λ d. d < size) (targets_of (Stateful (record { slots = ss; trees = a.trees })))) slots_are fits))
          where
            few : length (held (cut P) c) ≤ 2
            few = let n = two_at_most a.trees in omega (arith, n, are.slots)

    staged : AreStaged P hash val before after size depth qs
    staged = record {
      fine = every_from (λ q. IsAtomRight P val before after hash size K (q.stage - 1) q.atom) qs atom_right;
      stages = plan.stages;
      arrays = arrays_distinct P laws depth qs plan;
      entered = λ v h. (laws.fields v h).1;
      rest = λ j ne. after_quiet base P.lines before j (quiet P laws depth qs plan j ne);
      many = length-after base P.lines before;
    }

    abbrev pub words : List ℕ
    words = packet ++ replicate (size - P.fields) 0

    abbrev pub ending : Arrays × List ℕ
    ending = front atom_writes (atom_exports hash) (atoms_from qs 0 depth) before words

    ends : ((d : ℕ) → K depth d → slice_index ending.1 d ≡ val (holder (cut P) d)) × (ending.0 ≡ after)
    ends =
        let many : length (replicate (size - P.fields) 0) ≡ size - P.fields = length-replicate {A = ℕ} (size - P.fields) 0 in
        let both : length words ≡ length packet + length (replicate (size - P.fields) 0) = length-append packet (replicate (size - P.fields) 0) in
        let fit : P.fields ≤ containers (cut P) = fields_fit P laws depth qs plan in
        let long : length words ≡ size = omega (arith, both, many, size_is, room, fit) in
        staged_front P hash val before after size depth qs staged words long (λ v h.
        let less : v < length packet = omega (arith, size_is, h) in
        let low : v < P.fields + count P = omega (arith, h) in
        index_front packet (replicate (size - P.fields) 0) v less ∙ sym (ext_low (cut P) base v low ∙ makes.entering v less))

    -- an output's port has its word
    out_shown : (o : Operand) → Shown P o → port_word (port_of (place (cut P)) o) ending.1 ≡ operand_word o val
    out_shown o (ShownConst w e) = subst (λ (x : Operand). port_word (port_of (place (cut P)) x) ending.1 ≡ operand_word x val) (sym e) refl
    out_shown o (ShownField v e h) =
        let known : K depth (place (cut P) v) = inl (subst (λ (u : ℕ). u < P.fields) (sym (laws.fields v h).0) h) in
        subst (λ (x : Operand). port_word (port_of (place (cut P)) x) ending.1 ≡ operand_word x val) (sym e) (ends.0 (place (cut P) v) known ∙ ap val (field_back P laws depth qs plan v h))
    out_shown o (ShownValue d v e i x) =
        let r = exporter P laws depth qs plan d v i x in
        let s = every_at (λ (q : Staged). (1 ≤ q.stage) × (q.stage ≤ depth)) qs r.0 plan.stages r.1 in
        let known : K depth (place (cut P) v) = inr (r.0, r.1, s.1, r.3) in
        subst (λ (x : Operand). port_word (port_of (place (cut P)) x) ending.1 ≡ operand_word x val) (sym e) (ends.0 (place (cut P) v) known ∙ ap val (back_of P laws depth qs plan d v i x))

    outs : (os : List Operand) → ((o : Operand) → IsIn o os → IsIn o P.outputs) → map (λ o. port_word (port_of (place (cut P)) (outer (cut P) o)) ending.1) os ≡ map (λ o. operand_word o base) os
    outs [] each = refl
    outs (o ∷ os) each =
        let oi : IsIn o P.outputs = each o (inl refl) in
        let low : (u : ℕ) → o ≡ Value u → u < P.fields + count P = λ u is. below u (shown_made P ok u (subst (λ (x : Operand). IsIn x P.outputs) is oi)) in
        let head : port_word (port_of (place (cut P)) (outer (cut P) o)) ending.1 ≡ operand_word o base = out_shown (outer (cut P) o) (laws.shown o oi) ∙ outer_word (cut P) base o low in
        let rest : map (λ o. port_word (port_of (place (cut P)) (outer (cut P) o)) ending.1) os ≡ map (λ o. operand_word o base) os = outs os (λ x i. each x (inr i)) in
        cc
      where
        below : (u : ℕ) → (u < P.fields) ⊎ IsMade P.fields P.lines u → u < P.fields + count P
        below u (inl h) = omega arith
        below u (inr (k, m, is, there, mk)) = let h : k < count P = at_within P.lines k m there in omega arith

    -- one packet through the stages, and the outputs: what the statement list makes of it
    pub flat_end_is : (map (λ o. port_word (port_of (place (cut P)) (outer (cut P) o)) ending.1) P.outputs ≡ (flat_outcome hash P.lines P.outputs packet before).packet)
        × (ending.0 ≡ (flat_outcome hash P.lines P.outputs packet before).arrays)
    flat_end_is = (
      outs P.outputs (λ o i. i),
      ends.1 ∙ sym (run_arrays hash (flat_entering packet before) P.lines earlier),
    )
