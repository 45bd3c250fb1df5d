-- What comes back of the threads of a storm: no public clause cites it.
use Rattle.std.specs.Prelude.{◌≡◌, ℕ, ◌+◌, ◌*◌, ◌^◌, ◌<◌, ◌≤◌, true, List, [], ◌∷◌, ◌++◌, length, map, sum_by, All, Result, Ok, Err, IfOk}
use Rattle.span_id.specs.declared.fault.Fault.{Fault}
use Rattle.span_id.specs.declared.limits.Limits.{Limits}
use Rattle.span_layers.specs.Filter.{Filter}
use Rattle.span_outlet.specs.Drain.{DrainView}
use Rattle.span_history.specs.Own.{own, FrontView}
use Rattle.span_registry.specs.Worker.{WorkerView}
use Rattle.span_registry.specs.Share.{ShareView, joined}
use Rattle.span_registry.specs.declared.report.Report.{Report}
use Rattle.span_storm.specs.Storm.{AreOfRounds, IsOneOf, IsParty, WasHeld, WasRefused, wants_jobs}
use Rattle.span_storm.specs.declared.fault.StormFault.{StormFault}
use Rattle.span_storm.specs.declared.fault.StormFault.TheVariants.{Memory, Refused, Held}

-- a worker that makes so many rounds, and the gate that it asks
pub record PartyView (Gate : Type 0) : Type 0 where
  pub worker : WorkerView
  pub gate : Gate
  pub rounds : ℕ

-- so many calls of its own are in what the worker has seen, the first of its rounds
abbrev pub HasOwn : ℕ → FrontView → Type 0
HasOwn calls front =
    (length (own front.number front.seen) ≡ calls) × AreOfRounds front.number (own front.number front.seen)

-- the calls of its own that the worker has seen are the first of its rounds
abbrev pub HasRounds : WorkerView → Type 0
HasRounds worker = AreOfRounds worker.number (own worker.number worker.seen)

-- the same, and so many more calls can be counted
abbrev pub MayMake : ℕ → WorkerView → Type 0
MayMake more worker = HasRounds worker × (worker.accepted + more < 2 ^ 64)

-- the party is this worker, after as many calls as it made
abbrev pub IsAt : WorkerView → ℕ → ℕ → Type 0
IsAt worker party calls = (party ≡ worker.number) × (calls ≡ worker.accepted)

-- the party is the worker of this number, which has a call of its rounds to make
abbrev pub IsCallOf : ℕ → ℕ → ℕ → ℕ → Type 0
IsCallOf number rounds party calls = (party ≡ number) × (calls < 9 * rounds)

-- the numbers of those who have seen something
abbrev pub numbers_seen : List FrontView → List ℕ
numbers_seen fronts = map (λ front. front.number) fronts

-- what comes back of a worker that has made its rounds: all its parts, nine accepted calls for each round, which it has
-- seen, and no handle
pub record ComesBack (worker : WorkerView) (rounds : ℕ) (share : ShareView) : Type 0 where
  pub units : share.units ≡ 0
  pub accepted : share.accepted ≡ worker.accepted + 9 * rounds
  pub handle_parts : share.handle_parts ≡ worker.spare
  pub call_parts : share.call_parts ≡ 1
  pub numbers : numbers_seen share.seen ≡ worker.number ∷ []
  pub own_are : All (HasOwn share.accepted) share.seen

-- so many workers that have made no call, and may make the handles of a round, may begin on so many rounds
pub record AreReady (rules : List Filter) (count : ℕ) (workers : List WorkerView) (rounds : ℕ) : Type 0 where
  pub wanted : wants_jobs rules ≡ true
  pub some : 0 < count
  pub few : count ≤ 16
  pub few_rounds : rounds ≤ 400
  pub new : All (λ worker. worker.accepted ≡ 0) workers
  pub numbers : All (λ worker. worker.number < count) workers
  pub spare : All (λ worker. 3 ≤ worker.spare) workers

-- why a party stopped: for want of memory, or for a refusal or a hold of which this is known
abbrev pub IsStop : (Fault → Type 0) → (ℕ → Type 0) → StormFault → Type 0
IsStop refused held Memory = Unit {0}
IsStop refused held (Refused fault) = refused fault
IsStop refused held (Held party) = held party

-- one of these workers stopped
abbrev pub IsWorkersStop : Limits → List Filter → (ℕ → ℕ → Type 0) → (ℕ → ℕ → Type 0) → StormFault → Type 0
IsWorkersStop limits rules holds is_one = IsStop (WasRefused limits rules is_one) (WasHeld holds is_one)

-- the drain, which is the party of this number, stopped: it makes no call
abbrev pub IsDrainsStop : (ℕ → ℕ → Type 0) → ℕ → StormFault → Type 0
IsDrainsStop holds number = IsStop (λ _. ⊥) (WasHeld holds (λ party calls. (party ≡ number) × (calls ≡ 0)))

-- one of so many workers stopped in so many rounds, or the drain, whose number is that of all workers
abbrev pub IsStormStop : Limits → List Filter → (ℕ → ℕ → Type 0) → ℕ → ℕ → StormFault → Type 0
IsStormStop limits rules holds workers rounds =
    IsStop (WasRefused limits rules (IsOneOf workers rounds)) (WasHeld holds (IsParty workers rounds))

-- the shares of these workers together, each of which has come back
pub record HasAll (workers : List WorkerView) (rounds : ℕ) (share : ShareView) : Type 0 where
  pub units : share.units ≡ 0
  pub accepted : share.accepted ≡ 9 * (length workers * rounds)
  pub handle_parts : share.handle_parts ≡ sum_by (λ worker. worker.spare) workers
  pub call_parts : share.call_parts ≡ length workers
  pub numbers : numbers_seen share.seen ≡ map (λ worker. worker.number) workers
  pub own_are : All (HasOwn (9 * rounds)) share.seen

-- What is put together of n workers when as many as `rest` have not been joined, unless one had a fault: each has made
-- so many calls, and of all parts so many are left.
abbrev pub Gathers : Result ShareView StormFault → ℕ → ℕ → ℕ → ℕ → ℕ → Type 0
Gathers whole n rest each all left = IfOk whole (λ share.
    (share.units ≡ 0) × (share.call_parts + rest ≡ n) × (share.accepted ≡ share.call_parts * each)
    × (share.handle_parts + left ≡ all))

-- What the workers had seen that were put together, unless one had a fault: so many calls of its own each, and with
-- the numbers of those that have not been joined theirs are all numbers.
abbrev pub GathersSeen : Result ShareView StormFault → ℕ → List ℕ → List ℕ → Type 0
GathersSeen whole each rest all = IfOk whole (λ share.
    All (HasOwn each) share.seen × (numbers_seen share.seen ++ rest ≡ all))

-- both shares, or the fault of the first that has one
abbrev pub both_shares : Result ShareView StormFault → Result ShareView StormFault → Result ShareView StormFault
both_shares (Err fault) other = Err fault
both_shares (Ok one) (Err fault) = Err fault
both_shares (Ok one) (Ok other) = Ok (joined one other)

-- the whole share and the drain, or the workers' fault, or that of the drain where they have none
abbrev pub share_and_drain : Result ShareView StormFault → Result DrainView StormFault → Result (ShareView × DrainView) StormFault
share_and_drain (Err fault) drain = Err fault
share_and_drain (Ok whole) (Err fault) = Err fault
share_and_drain (Ok whole) (Ok drain) = Ok (whole, drain)

-- the sums of two shares fit in a `u64`
abbrev pub Fit : Result ShareView StormFault → Result ShareView StormFault → Type 0
Fit one other = IfOk one (λ a. IfOk other (λ b. (a.units + b.units < 2 ^ 64) × (a.accepted + b.accepted < 2 ^ 64)))

-- The numbers of a report of so many workers and rounds: nine calls for each round of each worker, each handle given
-- back, each span left by who entered it, and each span closed.
pub record HasNumbers (workers rounds : ℕ) (report : Report) : Type 0 where
  pub calls : report.calls ≡ 9 * (workers * rounds)
  pub handles : report.handles ≡ 0
  pub entries : report.entries ≡ 0
  pub left : report.left ≡ 0
  pub balance : report.made ≡ report.closed

-- a drain in its thread, the gate that it asks, and its number as a party
pub record DrainingView (Gate : Type 0) : Type 0 where
  pub drain : DrainView
  pub gate : Gate
  pub party : ℕ

-- the drain of the same ring, which writes in the same forms
pub record IsSameDrain (went back : DrainView) : Type 0 where
  pub name : back.name ≡ went.name
  pub forms : back.forms ≡ went.forms

-- the whole share of these workers and the drain that went with them
pub record AreBothBack (workers : List WorkerView) (rounds : ℕ) (went : DrainView) (share : ShareView) (back : DrainView) : Type 0 where
  pub whole : HasAll workers rounds share
  pub drain : IsSameDrain went back
