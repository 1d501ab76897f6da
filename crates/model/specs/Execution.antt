-- Power-on, the calls, and lists of calls: the only place that picks a processor of the machine.
-- Assumes nothing.
use Rattle.std.specs.Prelude.{cond, not, ◌&&◌, List, [], ◌∷◌, ℕ, eqb, replicate}
use Rattle.model.specs.Records.{processor_limit, zero_processor, absent, processor_at, with_key, with_processors, with_processor, with_platform}
use Rattle.model.specs.Calls.{PowerOn, StepCall, CounterCall, ReadCall, WriteCall, Call, step, counter, read, write, settle, sleep, reset, taken, lent_cpu, lent_buffer, Answer, Outcome}
use Rattle.model.specs.Validity.{valid_count, valid_features, valid}
use Rattle.model.specs.Refusals.{View, test, first, refusal}
use Rattle.model.specs.Instructions.{executed}
use Rattle.model.specs.Counter.{counted}
use Rattle.model.specs.Backup.{written, register_read, settled, with_taken, woken}
use Rattle.model.specs.declared.Platform.{Platform}
use Rattle.model.specs.declared.Machine.{Machine}

-- ---- power-on

-- the scope, "Records": "Power-on (house): IWKeys all zero, backup and store absent, all bits 0."
abbrev pub zero_platform : Platform
zero_platform = record { backup = absent; store = absent; pending = 0; valid = 0; error = 0; consumed = 0 }

abbrev pub fresh : ℕ → ℕ → Machine
fresh count features =
    record { count = count; features = features; processors = replicate processor_limit zero_processor; platform = zero_platform }

-- the scope, "Turned back" 1: what power-on meets of it
abbrev pub power_on_refusal : PowerOn → ℕ
power_on_refusal p = first (test 1 (not (valid_count p.count && valid_features p.features)) ∷ [])

abbrev pub done : Machine → List ℕ → List ℕ → ℕ → Outcome
done m cpu buffer value = record { machine = m; answer = record { number = 0; cpu = cpu; buffer = buffer; value = value } }

-- "Refused, it returns an all-zero machine"
abbrev pub power_on : PowerOn → Outcome
power_on p =
    cond (eqb (power_on_refusal p) 0)
    (done (fresh p.count p.features) [] [] 0)
    (record { machine = fresh 0 0; answer = record { number = power_on_refusal p; cpu = []; buffer = []; value = 0 } })

-- ---- calls

-- "Each leaves machine, CPU record and memory unchanged, and gives only its number"
abbrev pub refused : ℕ → Machine → Call → Outcome
refused n m c = record { machine = m; answer = record { number = n; cpu = lent_cpu c; buffer = lent_buffer c; value = 0 } }

abbrev pub view_of : Machine → View
view_of m = record { count = m.count; features = m.features }

-- a step changes the IWKey of its processor, if anything of the machine
abbrev pub perform_step : Machine → StepCall → Outcome
perform_step m s =
    let e = processor_at m s.processor in
    done (with_processor s.processor (with_key (executed s e.key).key e) m) (executed s e.key).cpu [] 0

-- a counter call leaves the machine
abbrev pub perform_counter : Machine → CounterCall → Outcome
perform_counter m c = let x = counted c (processor_at m c.processor).key in done m x.cpu x.buffer 0

abbrev pub perform_read : Machine → ReadCall → Outcome
perform_read m r = done m [] [] (register_read r.address (processor_at m r.processor) m.platform)

abbrev pub perform_write : Machine → WriteCall → Outcome
perform_write m w =
    let x = written w.address w.value (processor_at m w.processor) m.platform in
    done (with_platform x.platform (with_processor w.processor x.processor m)) [] [] 0

-- "Sleep and wake ..: IWKeys zero, copy statuses 0"; "Reset: as power-on, same count and features."
unfoldable pub perform : Machine → Call → Outcome
perform m (step s) = perform_step m s
perform m (counter c) = perform_counter m c
perform m (read r) = perform_read m r
perform m (write w) = perform_write m w
perform m (settle s) = done (with_platform (settled s.code m.platform) m) [] [] 0
perform m (sleep s) = done (with_processors (replicate processor_limit zero_processor) (with_platform (woken s.code m.platform) m)) [] [] 0
perform m reset = done (fresh m.count m.features) [] [] 0
perform m taken = done (with_platform (with_taken m.platform) m) [] [] 0

-- the scope, "Turned back": 1 comes first
abbrev pub number_of : Machine → Call → ℕ
number_of m c = cond (valid m) (refusal (view_of m) c) 1

unfoldable pub call : Machine → Call → Outcome
call m c = cond (eqb (number_of m c) 0) (perform m c) (refused (number_of m c) m c)

-- ---- lists of calls

-- one answer for each call, and the machine after the last
pub record Run : Type 0 where
  pub answers : List Answer
  pub machine : Machine

-- demand 3: "Each call gets the machine that the one before left, and nobody else writes it meanwhile."
abbrev pub run : Machine → List Call → Run
run m [] = record { answers = []; machine = m }
run m (c ∷ l) =
    record { answers = (call m c).answer ∷ (run (call m c).machine l).answers; machine = (run (call m c).machine l).machine }
