-- Cycles after cycles.
use Rattle.std.proofs.Common.{◌≡◌, ℕ, ◌+◌, List, [], ◌∷◌, ◌++◌, length, refl, sym, ap, ◌∙◌, append_assoc, append-nil, add-zero, length-append, subst, Option, Some, None, arith, Result, Ok, Err, OnErr, Bool, true, false, ◌-◌, ◌<◌}
use Rattle.std.proofs.lemmas.List.{length-replicate, replicate-append-replicate}
use Rattle.dom_io.specs.Held.{IsPart, Puts, appended}
use Rattle.dom_words.specs.State.{Hash}
use Rattle.banzai_config.specs.Action.{Entry}
use Rattle.banzai_machine.specs.Pipe.{leaves_with}
use Rattle.banzai_machine.specs.State.{LeavesAs, MachineForm}
use Rattle.dom_report.proofs.Parts.{appended-appended, idles, part_after, part_before}
use Rattle.dom_report.specs.Clocking.{ClockedOver, Cycle, StoppedIn, after_cycle, after_cycles, after_entries, cycle_of, cycles_from, bytes_over}

pub appended-none : (held : Option (List ℕ)) → appended held [] ≡ held
appended-none None = refl
appended-none (Some h) = ap Some (append-nil h)

pub behind_idles : (number later done : ℕ) → later ≡ number + done → later ≡ number + length (idles done)
behind_idles number later done at_later = at_later ∙ ap (λ n. number + n) (sym (length-replicate {A = Entry} done None))

module _ (hash : Hash) where
  pub after_entries-append : (m : MachineForm) (xs ys : List Entry) → after_entries hash m (xs ++ ys) ≡ after_entries hash (after_entries hash m xs) ys
  after_entries-append m [] ys = refl
  after_entries-append m (x ∷ xs) ys = after_entries-append (after_cycle hash m x) xs ys

  pub cycles_from-append : (m : MachineForm) (number later : ℕ) (xs ys : List Entry) → later ≡ number + length xs
      → cycles_from hash m number (xs ++ ys) ≡ cycles_from hash m number xs ++ cycles_from hash (after_entries hash m xs) later ys
  cycles_from-append m number later [] ys at_later = ap (λ n. cycles_from hash m n ys) (let e : number ≡ later = omega arith in e)
  cycles_from-append m number later (x ∷ xs) ys at_later =
      ap (λ l. cycle_of hash m number x ∷ l) (cycles_from-append (after_cycle hash m x) (number + 1) later xs ys (omega (arith, at_later)))

module _ {A : Type 0} (bytes : A → Cycle → List ℕ) (after : A → Cycle → A) where
  pub after_cycles-append : (a : A) (xs ys : List Cycle) → after_cycles bytes after a (xs ++ ys) ≡ after_cycles bytes after (after_cycles bytes after a xs) ys
  after_cycles-append a [] ys = refl
  after_cycles-append a (x ∷ xs) ys = after_cycles-append (after a x) xs ys

  pub bytes_over-append : (a : A) (xs ys : List Cycle) → bytes_over bytes after a (xs ++ ys) ≡ bytes_over bytes after a xs ++ bytes_over bytes after (after_cycles bytes after a xs) ys
  bytes_over-append a [] ys = refl
  bytes_over-append a (x ∷ xs) ys =
      ap (λ l. bytes a x ++ l) (bytes_over-append (after a x) xs ys) ∙ sym (append_assoc (bytes a x) (bytes_over bytes after (after a x) xs) (bytes_over bytes after (after_cycles bytes after (after a x) xs) ys))

  module _ (hash : Hash) where
    -- what is put over entries behind entries
    bytes_then : (m0 m1 : MachineForm) (a0 a1 : A) (number later : ℕ) (xs ys : List Entry) → later ≡ number + length xs → m1 ≡ after_entries hash m0 xs
        → a1 ≡ after_cycles bytes after a0 (cycles_from hash m0 number xs)
        → bytes_over bytes after a0 (cycles_from hash m0 number xs) ++ bytes_over bytes after a1 (cycles_from hash m1 later ys) ≡ bytes_over bytes after a0 (cycles_from hash m0 number (xs ++ ys))
    bytes_then m0 m1 a0 a1 number later xs ys at_later machine_is action_is =
        let first : List Cycle = cycles_from hash m0 number xs in
        ap (λ a. bytes_over bytes after a0 first ++ bytes_over bytes after a (cycles_from hash m1 later ys)) action_is
        ∙ ap (λ m. bytes_over bytes after a0 first ++ bytes_over bytes after (after_cycles bytes after a0 first) (cycles_from hash m later ys)) machine_is
        ∙ sym (ap (bytes_over bytes after a0) (cycles_from-append hash m0 number later xs ys at_later) ∙ bytes_over-append a0 first (cycles_from hash (after_entries hash m0 xs) later ys))

    action_then : (m0 m1 : MachineForm) (a0 a1 : A) (number later : ℕ) (xs ys : List Entry) → later ≡ number + length xs → m1 ≡ after_entries hash m0 xs
        → a1 ≡ after_cycles bytes after a0 (cycles_from hash m0 number xs)
        → after_cycles bytes after a1 (cycles_from hash m1 later ys) ≡ after_cycles bytes after a0 (cycles_from hash m0 number (xs ++ ys))
    action_then m0 m1 a0 a1 number later xs ys at_later machine_is action_is =
        let first : List Cycle = cycles_from hash m0 number xs in
        ap (λ a. after_cycles bytes after a (cycles_from hash m1 later ys)) action_is
        ∙ ap (λ m. after_cycles bytes after (after_cycles bytes after a0 first) (cycles_from hash m later ys)) machine_is
        ∙ sym (ap (after_cycles bytes after a0) (cycles_from-append hash m0 number later xs ys at_later) ∙ after_cycles-append a0 first (cycles_from hash (after_entries hash m0 xs) later ys))

    machine_then : (m0 m1 : MachineForm) (xs ys : List Entry) → m1 ≡ after_entries hash m0 xs → after_entries hash m1 ys ≡ after_entries hash m0 (xs ++ ys)
    machine_then m0 m1 xs ys machine_is = ap (λ m. after_entries hash m ys) machine_is ∙ sym (after_entries-append hash m0 xs ys)

    held_then : (m0 m1 : MachineForm) (a0 a1 : A) (h0 h1 : Option (List ℕ)) (number later : ℕ) (xs ys : List Entry) → later ≡ number + length xs → ClockedOver bytes after hash m0 m1 a0 a1 h0 h1 number xs
        → appended h1 (bytes_over bytes after a1 (cycles_from hash m1 later ys)) ≡ appended h0 (bytes_over bytes after a0 (cycles_from hash m0 number (xs ++ ys)))
    held_then m0 m1 a0 a1 h0 h1 number later xs ys at_later first =
        ap (λ h. appended h (bytes_over bytes after a1 (cycles_from hash m1 later ys))) first.held_is
        ∙ appended-appended h0 (bytes_over bytes after a0 (cycles_from hash m0 number xs)) (bytes_over bytes after a1 (cycles_from hash m1 later ys))
        ∙ ap (appended h0) (bytes_then m0 m1 a0 a1 number later xs ys at_later first.machine_is first.action_is)

    module _ (m0 m1 m2 : MachineForm) (a0 a1 a2 : A) (h0 h1 h2 : Option (List ℕ)) (number later : ℕ) (xs ys : List Entry) (at_later : later ≡ number + length xs) where
      -- entries behind entries
      pub clocked_then : ClockedOver bytes after hash m0 m1 a0 a1 h0 h1 number xs → ClockedOver bytes after hash m1 m2 a1 a2 h1 h2 later ys → ClockedOver bytes after hash m0 m2 a0 a2 h0 h2 number (xs ++ ys)
      clocked_then first second = record {
        machine_is = second.machine_is ∙ machine_then m0 m1 xs ys first.machine_is;
        action_is = second.action_is ∙ action_then m0 m1 a0 a1 number later xs ys at_later first.machine_is first.action_is;
        held_is = second.held_is ∙ held_then m0 m1 a0 a1 h0 h1 number later xs ys at_later first;
      }

      -- a stop behind entries
      pub stopped_then : ClockedOver bytes after hash m0 m1 a0 a1 h0 h1 number xs → StoppedIn bytes after hash m1 m2 a1 h1 h2 later ys → StoppedIn bytes after hash m0 m2 a0 h0 h2 number (xs ++ ys)
      stopped_then first stop =
          let at_last : later + length stop.before ≡ number + length (xs ++ stop.before) = omega (arith, at_later, length-append xs stop.before) in
          let machine : MachineForm = after_entries hash m1 stop.before in
          let action : A = after_cycles bytes after a1 (cycles_from hash m1 later stop.before) in
          record {
            before = xs ++ stop.before;
            entry = stop.entry;
            behind = stop.behind;
            entries_are = ap (λ l. xs ++ l) stop.entries_are ∙ sym (append_assoc xs stop.before (stop.entry ∷ stop.behind));
            machine_is = stop.machine_is ∙ machine_then m0 m1 xs (stop.before ++ stop.entry ∷ []) first.machine_is ∙ ap (after_entries hash m0) (sym (append_assoc xs stop.before (stop.entry ∷ [])));
            last = stop.last;
            last_is =
                stop.last_is ∙ ap (λ n. bytes action (cycle_of hash machine n stop.entry)) at_last
                ∙ ap (λ m. bytes action (cycle_of hash m (number + length (xs ++ stop.before)) stop.entry)) (machine_then m0 m1 xs stop.before first.machine_is)
                ∙ ap (λ a. bytes a (cycle_of hash (after_entries hash m0 (xs ++ stop.before)) (number + length (xs ++ stop.before)) stop.entry))
                (action_then m0 m1 a0 a1 number later xs stop.before at_later first.machine_is first.action_is);
            some = stop.some;
            part = subst (λ (h : Option (List ℕ)). IsPart h h2 stop.last) (held_then m0 m1 a0 a1 h0 h1 number later xs stop.before at_later first) stop.part;
          }

    -- a stop with entries still to come
    pub stopped_before : (m0 m1 : MachineForm) (a0 : A) (h0 h1 : Option (List ℕ)) (number : ℕ) (xs ys : List Entry) → StoppedIn bytes after hash m0 m1 a0 h0 h1 number xs → StoppedIn bytes after hash m0 m1 a0 h0 h1 number (xs ++ ys)
    stopped_before m0 m1 a0 h0 h1 number xs ys stop = record {
      before = stop.before;
      entry = stop.entry;
      behind = stop.behind ++ ys;
      entries_are = ap (λ l. l ++ ys) stop.entries_are ∙ append_assoc stop.before (stop.entry ∷ stop.behind) ys;
      machine_is = stop.machine_is;
      last = stop.last;
      last_is = stop.last_is;
      some = stop.some;
      part = stop.part;
    }

    -- the bytes before a stop, and some first ones of those that were to be put there, are a part of all bytes
    pub stopped_part : (m0 m1 : MachineForm) (a0 : A) (h0 h1 : Option (List ℕ)) (number : ℕ) (xs : List Entry) → StoppedIn bytes after hash m0 m1 a0 h0 h1 number xs
        → IsPart h0 h1 (bytes_over bytes after a0 (cycles_from hash m0 number xs))
    stopped_part m0 m1 a0 h0 h1 number xs stop =
        let first : List ℕ = bytes_over bytes after a0 (cycles_from hash m0 number stop.before) in
        let m : MachineForm = after_entries hash m0 stop.before in
        let a : A = after_cycles bytes after a0 (cycles_from hash m0 number stop.before) in
        let here : Cycle = cycle_of hash m (number + length stop.before) stop.entry in
        let rest : List ℕ = bytes_over bytes after (after a here) (cycles_from hash (after_cycle hash m stop.entry) (number + length stop.before + 1) stop.behind) in
        let whole : bytes_over bytes after a0 (cycles_from hash m0 number xs) ≡ first ++ (stop.last ++ rest) =
        ap (λ l. bytes_over bytes after a0 (cycles_from hash m0 number l)) stop.entries_are
        ∙ ap (bytes_over bytes after a0) (cycles_from-append hash m0 number (number + length stop.before) stop.before (stop.entry ∷ stop.behind) refl)
        ∙ bytes_over-append a0 (cycles_from hash m0 number stop.before) (cycles_from hash m (number + length stop.before) (stop.entry ∷ stop.behind))
        ∙ ap (λ l. first ++ (l ++ rest)) (sym stop.last_is) in
        subst (λ (l : List ℕ). IsPart h0 h1 l) (sym whole) (part_after h0 (appended h0 first) h1 first (stop.last ++ rest) refl (part_before (appended h0 first) h1 stop.last rest stop.part))

    -- no entries
    pub clocked_none : (m : MachineForm) (a : A) (h : Option (List ℕ)) (number : ℕ) → ClockedOver bytes after hash m m a a h h number []
    clocked_none m a h number = record { machine_is = refl; action_is = refl; held_is = sym (appended-none h) }

    -- one idle cycle more
    pub idle_more : (m0 m1 m2 : MachineForm) (a0 a1 a2 : A) (h0 h1 h2 : Option (List ℕ)) (number later done : ℕ) → later ≡ number + done
        → ClockedOver bytes after hash m0 m1 a0 a1 h0 h1 number (idles done) → ClockedOver bytes after hash m1 m2 a1 a2 h1 h2 later (None ∷ []) → ClockedOver bytes after hash m0 m2 a0 a2 h0 h2 number (idles (done + 1))
    idle_more m0 m1 m2 a0 a1 a2 h0 h1 h2 number later done at_later first second =
        let more : idles done ++ idles 1 ≡ idles (done + 1) = replicate-append-replicate done 1 None in
        rw (← more) (clocked_then m0 m1 m2 a0 a1 a2 h0 h1 h2 number later (idles done) (idles 1) (behind_idles number later done at_later) first second)

    -- a stop in one of idle cycles
    pub idle_stop : (m0 m1 m2 : MachineForm) (a0 a1 : A) (h0 h1 h2 : Option (List ℕ)) (number later done count : ℕ) → done < count → later ≡ number + done
        → ClockedOver bytes after hash m0 m1 a0 a1 h0 h1 number (idles done) → StoppedIn bytes after hash m1 m2 a1 h1 h2 later (None ∷ []) → StoppedIn bytes after hash m0 m2 a0 h0 h2 number (idles count)
    idle_stop m0 m1 m2 a0 a1 h0 h1 h2 number later done count inside at_later first stop =
        let rest : ℕ = count - (done + 1) in
        let inner : idles 1 ++ idles rest ≡ idles (1 + rest) = replicate-append-replicate 1 rest None in
        let outer : idles done ++ idles (1 + rest) ≡ idles (done + (1 + rest)) = replicate-append-replicate done (1 + rest) None in
        let all : done + (1 + rest) ≡ count = omega arith in
        let whole : idles done ++ (idles 1 ++ idles rest) ≡ idles count = ap (λ l. idles done ++ l) inner ∙ outer ∙ ap idles all in
        rw (← whole)
        (stopped_then m0 m1 m2 a0 a1 a1 h0 h1 h2 number later (idles done) (idles 1 ++ idles rest) (behind_idles number later done at_later) first
        (stopped_before m1 m2 a1 h1 h2 later (idles 1) (idles rest) stop))

    -- a packet behind its idle cycles
    pub packet_clocked : (m0 m1 m2 : MachineForm) (a0 a1 a2 : A) (h0 h1 h2 : Option (List ℕ)) (number later gap : ℕ) (packet : List ℕ) → later ≡ number + gap
        → ClockedOver bytes after hash m0 m1 a0 a1 h0 h1 number (idles gap) → ClockedOver bytes after hash m1 m2 a1 a2 h1 h2 later (Some packet ∷ [])
        → ClockedOver bytes after hash m0 m2 a0 a2 h0 h2 number (idles gap ++ Some packet ∷ [])
    packet_clocked m0 m1 m2 a0 a1 a2 h0 h1 h2 number later gap packet at_later first second =
        clocked_then m0 m1 m2 a0 a1 a2 h0 h1 h2 number later (idles gap) (Some packet ∷ []) (behind_idles number later gap at_later) first second

    pub packet_stop : (m0 m1 m2 : MachineForm) (a0 a1 : A) (h0 h1 h2 : Option (List ℕ)) (number later gap : ℕ) (packet : List ℕ) → later ≡ number + gap
        → ClockedOver bytes after hash m0 m1 a0 a1 h0 h1 number (idles gap) → StoppedIn bytes after hash m1 m2 a1 h1 h2 later (Some packet ∷ [])
        → StoppedIn bytes after hash m0 m2 a0 h0 h2 number (idles gap ++ Some packet ∷ [])
    packet_stop m0 m1 m2 a0 a1 h0 h1 h2 number later gap packet at_later first stop =
        stopped_then m0 m1 m2 a0 a1 a1 h0 h1 h2 number later (idles gap) (Some packet ∷ []) (behind_idles number later gap at_later) first stop

    -- a stop in the only cycle
    pub stopped_once : (m m' : MachineForm) (a : A) (h h' : Option (List ℕ)) (number : ℕ) (entry : Entry) (cycle : Cycle) → cycle ≡ cycle_of hash m number entry → m' ≡ after_cycle hash m entry
        → 0 < length (bytes a cycle) → IsPart h h' (bytes a cycle) → StoppedIn bytes after hash m m' a h h' number (entry ∷ [])
    stopped_once m m' a h h' number entry cycle cycle_is machine_is some part = record {
      before = [];
      entry = entry;
      behind = [];
      entries_are = refl;
      machine_is = machine_is;
      last = bytes a cycle;
      last_is = ap (bytes a) cycle_is ∙ ap (λ n. bytes a (cycle_of hash m n entry)) (sym (add-zero number));
      some = some;
      part = subst (λ (k : Option (List ℕ)). IsPart k h' (bytes a cycle)) (sym (appended-none h)) part;
    }

-- a cycle is known by what left in it and by the machine after it
pub cycle_is : (hash : Hash) (m m' : MachineForm) (number : ℕ) (entry left : Entry) → m' ≡ after_cycle hash m entry → left ≡ leaves_with hash m.config m.row entry
    → ◌≡◌ {A = Cycle} (record { number = number; left = left; machine = m' }) (cycle_of hash m number entry)
cycle_is hash m m' number entry left machine_is out_is =
    ap (λ (k : MachineForm). seen number left k) machine_is ∙ ap (λ (l : Entry). seen number l (after_cycle hash m entry)) out_is
  where
    seen : ℕ → Entry → MachineForm → Cycle
    seen n l k = record { number = n; left = l; machine = k }

-- what is told of a leaving packet is what left
pub left_is : (out left : Entry) (told : Bool) (old new : List ℕ) → LeavesAs out told old new → (told ≡ true → left ≡ Some new) → (told ≡ false → left ≡ None) → left ≡ out
left_is None left told old new is some none = none is.0
left_is (Some words) left told old new is some none = some is.0 ∙ ap Some is.1

-- there were bytes to put where that failed, and a part of them was put
pub err_part : {E : Type 0} (result : Result (Unit {0}) E) (h0 h1 : Option (List ℕ)) (bytes : List ℕ) → OnErr result (0 < length bytes) → Puts h0 h1 bytes result
    → OnErr result ((0 < length bytes) × IsPart h0 h1 bytes)
err_part (Ok x) h0 h1 bytes some put = tt
err_part (Err e) h0 h1 bytes some put = (some, put)
