-- What a read of a record does to the records that a reader has yet to give.
use Rattle.std.proofs.Common.{◌≡◌, ℕ, true, false, Bor, List, [], ◌∷◌, Option, Some, None, refl, sym, ◌∙◌, ap, inl}
use Rattle.csv.specs.Machine.{Read, ends_at_end, next_record}
use Rattle.csv.specs.Reading.{NextIs, ReadRecord, ReadsNext, default_config, pending_of, took_first}
use Rattle.csv.specs.declared.parser.State.{State}
use Rattle.csv.specs.declared.reader.Reader.{Reader}
use Rattle.trace_text.proofs.Records.{records_of-first, records_of-none, takes}
use Rattle.trace_text.specs.Rows.{IsReading, bytes_left, records_of, rows_left}

-- a record was read, and these bytes are left
pub record Found (s s2 : State) (xs : List ℕ) (fields : List (List ℕ)) (after : Option (List ℕ)) : Type 0 where
  pub bytes : List ℕ
  pub source : after ≡ Some bytes
  pub between : ends_at_end s2 ≡ false
  pub rows : records_of s (Some xs) ≡ fields ∷ records_of s2 after

found-next : (s s2 : State) (xs ys : List ℕ) (fields : List (List ℕ)) → ends_at_end s ≡ false → (o : Option Read) → next_record default_config s [] [] xs ≡ o
    → NextIs o true fields s2 ys → Found s s2 xs fields (Some ys)
found-next s s2 xs ys fields between None e n = cc n
found-next s s2 xs ys fields between (Some p) e n =
    rw (n.1, n.2, n.3) record {
      bytes = p.2;
      source = refl;
      between = (takes s [] [] xs p e).between;
      rows = records_of-first s xs p between e;
    }

found : (s s2 : State) (xs : List ℕ) (after : Option (List ℕ)) (fields : List (List ℕ)) → ends_at_end s ≡ false
    → ReadsNext default_config s (Some xs) after true fields s2 → Found s s2 xs fields after
found s s2 xs None fields between r = absurd r
found s s2 xs (Some ys) fields between r = found-next s s2 xs ys fields between (next_record default_config s [] [] xs) refl r

ended-next : (s s2 : State) (xs ys : List ℕ) (fields : List (List ℕ)) → ends_at_end s ≡ false → (o : Option Read) → next_record default_config s [] [] xs ≡ o
    → NextIs o false fields s2 ys → records_of s (Some xs) ≡ []
ended-next s s2 xs ys fields between None e n = records_of-none s xs between e
ended-next s s2 xs ys fields between (Some p) e n = cc n.0

ended : (s s2 : State) (xs : List ℕ) (after : Option (List ℕ)) (fields : List (List ℕ)) → ends_at_end s ≡ false
    → ReadsNext default_config s (Some xs) after false fields s2 → records_of s (Some xs) ≡ []
ended s s2 xs None fields between r = absurd r
ended s s2 xs (Some ys) fields between r = ended-next s s2 xs ys fields between (next_record default_config s [] [] xs) refl r

-- after a read the bytes that are pending are those that are left
pending-left : (b : Reader (Bor (List ℕ))) → b.bom_checked ≡ true → pending_of (Some b.rdr.now) b ≡ bytes_left b
pending-left b begun = rw begun refl

-- a read that found a record
pub read-found : (a b : Reader (Bor (List ℕ))) (fields : List (List ℕ)) → IsReading a → took_first b ≡ true → ReadRecord (λ (s : Bor (List ℕ)). Some s.now) a b true fields
    → IsReading b × (rows_left a ≡ fields ∷ rows_left b)
read-found a b fields is first r =
    let f = found a.state b.state is.bytes _ fields is.between (rw (is.config, is.source) at r.0) in
    let left = pending-left b r.1 in (
      record {
        untrimmed = r.3 ∙ is.untrimmed;
        ready = inl first;
        config = r.2 ∙ is.config;
        bytes = f.bytes;
        source = sym left ∙ f.source;
        between = f.between;
      },
      ap (records_of a.state) is.source ∙ f.rows ∙ ap (λ (o : Option (List ℕ)). fields ∷ records_of b.state o) left,
    )

-- a read that found none
pub read-ended : (a b : Reader (Bor (List ℕ))) (fields : List (List ℕ)) → IsReading a → ReadRecord (λ (s : Bor (List ℕ)). Some s.now) a b false fields → rows_left a ≡ []
read-ended a b fields is r =
    ap (records_of a.state) is.source ∙ ended a.state b.state is.bytes _ fields is.between (rw (is.config, is.source) at r.0)
