-- What runs with queues put, in words of the program run serially.
use Rattle.std.specs.Prelude.{◌≡◌, ℕ, None, List, ◌++◌, length, replicate, sum_by, take}
use Rattle.trace_text.specs.declared.events.Event.{Event}
use Rattle.dom_words.specs.State.{Hash, started}
use Rattle.dom_ast.specs.Meaning.{serial_run}
use Rattle.dom_ast.specs.Resolved.{CheckedForm}
use Rattle.banzai_config.specs.Action.{Entry}
use Rattle.banzai_config.specs.Parts.{PartsForm}
use Rattle.banzai_machine.specs.Alone.{entries_alone, packets_of}
use Rattle.banzai_machine.specs.Pipe.{drain, emitted, pipe}
use Rattle.elastic_machine.specs.Queued.{admitted, queued}
use Rattle.dom_report.specs.ElasticLaw.{last, told_packets}

-- the report of `elastic` over these packets and events, with queues of `most` packets
pub record IsSerialInQueues (hash : Hash) (most : ℕ) (program : CheckedForm) (parts : PartsForm) (packets : List (List ℕ)) (events : List Event) : Type 0 where
  -- the packets of the trace are those that came in and, behind them, those that wait
  pub came_in : packets ≡ admitted hash most parts (last hash most parts packets events).happened ++ (last hash most parts packets events).waiting
  -- the packets of its lines are the first of what the program makes of those that came in, run on one after another
  pub in_order : told_packets hash most parts packets events
      ≡ take (length (told_packets hash most parts packets events)) (serial_run hash program (admitted hash most parts (last hash most parts packets events).happened)).packets
  -- where none is held, all of them, and the arrays are as the program leaves them
  pub all_left : sum_by length (queued hash most parts (last hash most parts packets events).happened).queues ≡ 0
      → told_packets hash most parts packets events ≡ (serial_run hash program (admitted hash most parts (last hash most parts packets events).happened)).packets
  pub all_arrays : sum_by length (queued hash most parts (last hash most parts packets events).happened).queues ≡ 0
      → (queued hash most parts (last hash most parts packets events).happened).state ≡ (serial_run hash program (admitted hash most parts (last hash most parts packets events).happened)).arrays

-- parts that are clocked over these entries, the drain and more idle cycles, as `schedule` does: what leaves are the packets of the
-- program, run on one packet after another, each as many cycles after it entered as there are stages
pub record IsSerialBehind (hash : Hash) (program : CheckedForm) (parts : PartsForm) (entries : List Entry) (more : ℕ) : Type 0 where
  pub cycles : emitted hash parts ((entries ++ drain parts) ++ replicate more None) ≡ drain parts ++ entries_alone hash parts (started parts.arrays) (entries ++ replicate more None)
  pub packets_are : packets_of (emitted hash parts ((entries ++ drain parts) ++ replicate more None)) ≡ (serial_run hash program (packets_of entries)).packets
  pub arrays_are : (pipe hash parts ((entries ++ drain parts) ++ replicate more None)).state ≡ (serial_run hash program (packets_of entries)).arrays
