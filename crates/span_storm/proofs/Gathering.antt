-- What is put together of workers that come back one after another.
use Rattle.std.proofs.Common.{◌≡◌, ℕ, ◌+◌, ◌*◌, ◌<◌, ◌≤◌, ◌^◌, List, [], ◌∷◌, ◌++◌, length, get_or, refl, sym, ◌∙◌, ap, subst, append_assoc, arith}
use Rattle.std.specs.Prelude.{sum_by, All, Result, Ok, Err, IfOk, IfErr, map}
use Rattle.std.proofs.lemmas.List.{map-append, append-nil, length-map, get_or-map}
use Rattle.std.proofs.lemmas.List.Sums.{sum_by-cons}
use Rattle.std.proofs.lemmas.List.Elements.{All-append, All-head, All-tail, All-push}
use Rattle.span_id.specs.declared.fault.Fault.{Fault}
use Rattle.span_id.specs.declared.limits.Limits.{Limits}
use Rattle.span_layers.specs.Filter.{Filter}
use Rattle.span_outlet.specs.Batch.{PlainBatch}
use Rattle.span_outlet.specs.Drain.{DrainView}
use Rattle.span_history.specs.Own.{FrontView, IsFront, own}
use Rattle.span_registry.specs.Worker.{WorkerView, IsNew}
use Rattle.span_registry.specs.Share.{ShareView}
use Rattle.span_storm.specs.declared.fault.StormFault.{StormFault}
use Rattle.span_storm.specs.declared.fault.StormFault.TheVariants.{Memory, Refused, Held}
use Rattle.span_storm.specs.Storm.{AreOfRounds, IsOneOf, IsParty, WasHeld, WasRefused}
use Rattle.span_storm.specs.Storm.IsParty.{is_worker, is_drain}
use Rattle.span_storm.specs.inside.Back.{AreBothBack, ComesBack, DrainingView, Gathers, GathersSeen, HasAll, HasOwn, IsAt, IsCallOf, IsDrainsStop, IsSameDrain, IsStop, IsStormStop, IsWorkersStop, PartyView, both_shares, numbers_seen, share_and_drain, Fit}

-- ---- lists that grow

-- one more was taken from the rest and put behind what is done
pub moved_map : {X Y : Type 0} (f : X → Y) (xs xs' : List X) (x : X) (y : Y) (rs rs' all : List Y) → xs' ≡ xs ++ x ∷ [] → f x ≡ y → rs ≡ y ∷ rs' → map f xs ++ rs ≡ all → map f xs' ++ rs' ≡ all
moved_map f xs xs' x y rs rs' all grown same taken before =
    ap (λ l. map f l ++ rs') grown
    ∙ ap (λ l. l ++ rs') (map-append f xs (x ∷ []))
    ∙ append_assoc (map f xs) (f x ∷ []) rs'
    ∙ ap (λ z. map f xs ++ z ∷ rs') same
    ∙ ap (λ l. map f xs ++ l) (sym taken)
    ∙ before

pub all_of_cons : {X : Type 0} (xs ys : List X) (x : X) → xs ≡ x ∷ ys → (P : X → Type 0) → All P xs → P x × All P ys
all_of_cons xs ys x is P all = let here : All P (x ∷ ys) = subst (λ l. All P l) is all in (All-head P x ys here, All-tail P x ys here)

pub all_grown : {X : Type 0} (xs xs' : List X) (x : X) → xs' ≡ xs ++ x ∷ [] → (P : X → Type 0) → All P xs → P x → All P xs'
all_grown xs xs' x is P all p = subst (λ l. All P l) (sym is) (All-push P xs x all p)

pub all_of_map : {X Y : Type 0} (f : X → Y) (xs : List X) (ys : List Y) → map f xs ≡ ys → (P : Y → Type 0) → All P ys → All (λ x. P (f x)) xs
all_of_map f xs ys is P all k d lt =
    let here : k < length ys = omega (arith, ap length is, length-map xs f, lt) in
    subst P (ap (λ l. get_or l k (f d)) (sym is) ∙ get_or-map f xs k d (f d) lt) (all k (f d) here)

pub sum_of_map : {X Y : Type 0} (f : X → Y) (n : Y → ℕ) (xs : List X) → sum_by (λ x. n (f x)) xs ≡ sum_by n (map f xs)
sum_of_map f n [] = refl
sum_of_map f n (x ∷ xs) = sum_by-cons (λ x. n (f x)) x xs ∙ ap (λ k. n (f x) + k) (sum_of_map f n xs) ∙ sym (sum_by-cons n (f x) (map f xs))

-- ---- why a party stopped

-- for a reason of one kind, so for one of a wider kind
stop_wider : (R R' : Fault → Type 0) (P P' : ℕ → Type 0) → ((fault : Fault) → R fault → R' fault) → ((party : ℕ) → P party → P' party) → (stopped : StormFault) → IsStop R P stopped → IsStop R' P' stopped
stop_wider R R' P P' refused held Memory stop = tt
stop_wider R R' P P' refused held (Refused fault) stop = refused fault stop
stop_wider R R' P P' refused held (Held party) stop = held party stop

module _ (limits : Limits) (rules : List Filter) (holds : ℕ → ℕ → Type 0) where
  refused_wider : (P Q : ℕ → ℕ → Type 0) → ((n k : ℕ) → P n k → Q n k) → (fault : Fault) → WasRefused limits rules P fault → WasRefused limits rules Q fault
  refused_wider P Q wider fault was = record {
    may_come = was.may_come;
    worker = was.worker;
    core = was.core;
    limits_are = was.limits_are;
    rules_are = was.rules_are;
    legal = was.legal;
    within = was.within;
    own_are = was.own_are;
    worker_is = wider was.worker (length (own was.worker was.core.sent)) was.worker_is;
    request = was.request;
    call = was.call;
    why = was.why;
  }

  held_wider : (P Q : ℕ → ℕ → Type 0) → ((n k : ℕ) → P n k → Q n k) → (party : ℕ) → WasHeld holds P party → WasHeld holds Q party
  held_wider P Q wider party was = record { calls = was.calls; party_is = wider party was.calls was.party_is; held = was.held }

  pub stopped_wider : (P Q : ℕ → ℕ → Type 0) → ((n k : ℕ) → P n k → Q n k) → (stopped : StormFault) → IsWorkersStop limits rules holds P stopped → IsWorkersStop limits rules holds Q stopped
  stopped_wider P Q wider stopped stop =
      stop_wider (WasRefused limits rules P) (WasRefused limits rules Q) (WasHeld holds P) (WasHeld holds Q) (refused_wider P Q wider) (held_wider P Q wider) stopped stop

  workers_wider : {T : Type 0} (P Q : ℕ → ℕ → Type 0) → ((n k : ℕ) → P n k → Q n k) → (r : Result T StormFault) → IfErr r (IsWorkersStop limits rules holds P) → IfErr r (IsWorkersStop limits rules holds Q)
  workers_wider P Q wider (Ok _) stop = tt
  workers_wider P Q wider (Err stopped) stop = stopped_wider P Q wider stopped stop

  -- a worker that has made some calls of its rounds, and not all
  pub stopped_at : (worker : WorkerView) (number rounds : ℕ) → worker.number ≡ number → worker.accepted < 9 * rounds → (stopped : StormFault) → IsWorkersStop limits rules holds (IsAt worker) stopped
      → IsWorkersStop limits rules holds (IsCallOf number rounds) stopped
  stopped_at worker number rounds is few stopped stop =
      stopped_wider (IsAt worker) (IsCallOf number rounds) (λ party calls at. (at.0 ∙ is, subst (λ n. n < 9 * rounds) (sym at.1) few)) stopped stop

  as_one : {T : Type 0} (n k rounds made : ℕ) (r : Result T StormFault) → k < n → made ≡ rounds → IfErr r (IsWorkersStop limits rules holds (IsCallOf k made)) → IfErr r (IsWorkersStop limits rules holds (IsOneOf n rounds))
  as_one n k rounds made r low same stop =
      workers_wider (IsCallOf k made) (IsOneOf n rounds) (λ party calls is. (subst (λ x. x < n) (sym is.0) low, subst (λ x. calls < 9 * x) same is.1)) r stop

-- one of the workers, at the gate that all ask
pub stopped_as_one : {T Gate : Type 0} (limits : Limits) (rules : List Filter) (holds : Gate → ℕ → ℕ → Type 0) (at gate : Gate) (n k rounds made : ℕ) (r : Result T StormFault)
    → at ≡ gate → k < n → made ≡ rounds → IfErr r (IsWorkersStop limits rules (holds at) (IsCallOf k made)) → IfErr r (IsWorkersStop limits rules (holds gate) (IsOneOf n rounds))
stopped_as_one limits rules holds at gate n k rounds made r same low are stop =
    as_one limits rules (holds gate) n k rounds made r low are (subst (λ x. IfErr r (IsWorkersStop limits rules (holds x) (IsCallOf k made))) same stop)

-- of two
pub stopped_also : (P : StormFault → Type 0) (whole r next : Result ShareView StormFault) → next ≡ both_shares whole r → IfErr whole P → IfErr r P → IfErr next P
stopped_also P whole r next same a b = subst (λ x. IfErr x P) (sym same) (either whole r a b) where
  either : (whole r : Result ShareView StormFault) → IfErr whole P → IfErr r P → IfErr (both_shares whole r) P
  either (Err fault) r a b = a
  either (Ok one) (Err fault) a b = b
  either (Ok one) (Ok other) a b = tt

-- ---- one worker more

abbrev pub spare_of : {Gate : Type 0} → PartyView Gate → ℕ
spare_of party = party.worker.spare

abbrev pub number_of : {Gate : Type 0} → PartyView Gate → ℕ
number_of party = party.worker.number

-- the workers that make so many rounds, and had made no call
abbrev pub AreNew : {Gate : Type 0} → ℕ → List (PartyView Gate) → Type 0
AreNew rounds parties = All (λ party. (party.rounds ≡ rounds) × (party.worker.accepted ≡ 0)) parties

-- the next worker is new, and so are the rest
pub new_of : {Gate : Type 0} (rounds : ℕ) (party : PartyView Gate) (xs ys : List (PartyView Gate)) → xs ≡ party ∷ ys → AreNew rounds xs → ((party.rounds ≡ rounds) × (party.worker.accepted ≡ 0)) × AreNew rounds ys
new_of {Gate} rounds party xs ys is new = all_of_cons xs ys party is (λ (p : PartyView Gate). (p.rounds ≡ rounds) × (p.worker.accepted ≡ 0)) new

module _ {Gate : Type 0} (rounds : ℕ) (party : PartyView Gate) (xs ys : List (PartyView Gate)) (is : xs ≡ party ∷ ys) (rounds_are : party.rounds ≡ rounds) (new : party.worker.accepted ≡ 0) where
  fewer : length xs ≡ length ys + 1
  fewer = ap length is ∙ omega arith

  parts_left : sum_by spare_of xs ≡ spare_of party + sum_by spare_of ys
  parts_left = ap (sum_by spare_of) is ∙ sum_by-cons spare_of party ys

  made : (share : ShareView) → ComesBack party.worker party.rounds share → share.accepted ≡ 9 * rounds
  made share back = back.accepted ∙ omega (arith, new, rounds_are)

  -- the first worker
  pub gathered_first : (r : Result ShareView StormFault) → IfOk r (ComesBack party.worker party.rounds) → Gathers r (length xs) (length ys) (9 * rounds) (sum_by spare_of xs) (sum_by spare_of ys)
  gathered_first (Err fault) back = tt
  gathered_first (Ok share) back =
      (back.units, omega (arith, back.call_parts, fewer), made share back ∙ omega (arith, ap (λ k. k * (9 * rounds)) back.call_parts), omega (arith, back.handle_parts, parts_left))

  -- one worker more
  gathered_next : (n all : ℕ) (whole r : Result ShareView StormFault) → Gathers whole n (length xs) (9 * rounds) all (sum_by spare_of xs)
      → IfOk r (ComesBack party.worker party.rounds) → Gathers (both_shares whole r) n (length ys) (9 * rounds) all (sum_by spare_of ys)
  gathered_next n all (Err fault) r g back = tt
  gathered_next n all (Ok before) (Err fault) g back = tt
  gathered_next n all (Ok before) (Ok share) g back =
      let one_more : before.call_parts + share.call_parts ≡ before.call_parts + 1 = omega (arith, back.call_parts) in (
        omega (arith, g.0, back.units),
        omega (arith, g.1, back.call_parts, fewer),
        omega (arith, g.2, made share back, ap (λ k. k * (9 * rounds)) one_more),
        omega (arith, g.3, back.handle_parts, parts_left),
      )

  pub gathered_also : (n all : ℕ) (whole r next : Result ShareView StormFault) → next ≡ both_shares whole r → Gathers whole n (length xs) (9 * rounds) all (sum_by spare_of xs)
      → IfOk r (ComesBack party.worker party.rounds) → Gathers next n (length ys) (9 * rounds) all (sum_by spare_of ys)
  gathered_also n all whole r next same g back = subst (λ x. Gathers x n (length ys) (9 * rounds) all (sum_by spare_of ys)) (sym same) (gathered_next n all whole r g back)

  one_number : (share : ShareView) → ComesBack party.worker party.rounds share → numbers_seen share.seen ++ map number_of ys ≡ map number_of xs
  one_number share back = ap (λ l. l ++ map number_of ys) back.numbers ∙ sym (ap (λ l. map number_of l) is)

  own_made : (share : ShareView) → ComesBack party.worker party.rounds share → All (HasOwn (9 * rounds)) share.seen
  own_made share back = subst (λ n. All (HasOwn n) share.seen) (made share back) back.own_are

  pub seen_first : (r : Result ShareView StormFault) → IfOk r (ComesBack party.worker party.rounds) → GathersSeen r (9 * rounds) (map number_of ys) (map number_of xs)
  seen_first (Err fault) back = tt
  seen_first (Ok share) back = (own_made share back, one_number share back)

  seen_next : (all : List ℕ) (whole r : Result ShareView StormFault) → GathersSeen whole (9 * rounds) (map number_of xs) all → IfOk r (ComesBack party.worker party.rounds)
      → GathersSeen (both_shares whole r) (9 * rounds) (map number_of ys) all
  seen_next all (Err fault) r g back = tt
  seen_next all (Ok before) (Err fault) g back = tt
  seen_next all (Ok before) (Ok share) g back = (
    All-append (HasOwn (9 * rounds)) before.seen share.seen g.0 (own_made share back),
    ap (λ l. l ++ map number_of ys) (map-append (λ (front : FrontView). front.number) before.seen share.seen)
        ∙ append_assoc (numbers_seen before.seen) (numbers_seen share.seen) (map number_of ys)
        ∙ ap (λ l. numbers_seen before.seen ++ l) (one_number share back)
        ∙ g.1,
  )

  pub seen_also : (all : List ℕ) (whole r next : Result ShareView StormFault) → next ≡ both_shares whole r → GathersSeen whole (9 * rounds) (map number_of xs) all
      → IfOk r (ComesBack party.worker party.rounds) → GathersSeen next (9 * rounds) (map number_of ys) all
  seen_also all whole r next same g back = subst (λ x. GathersSeen x (9 * rounds) (map number_of ys) all) (sym same) (seen_next all whole r g back)

  -- the shares of at most 16 workers, which make at most 400 rounds each, can be put together
  pub parts_fit : (n all : ℕ) (whole r : Result ShareView StormFault) → rounds ≤ 400 → n ≤ 16 → Gathers whole n (length xs) (9 * rounds) all (sum_by spare_of xs)
      → IfOk r (ComesBack party.worker party.rounds) → Fit whole r
  parts_fit n all (Err fault) r few some g back = tt
  parts_fit n all (Ok before) (Err fault) few some g back = tt
  parts_fit n all (Ok before) (Ok share) few some g back =
      (omega (arith, g.0, back.units), bound before.call_parts before.accepted (omega (arith, g.1, some)) g.2) where
        bound : (k a : ℕ) → k ≤ 16 → a ≡ k * (9 * rounds) → a + share.accepted < 2 ^ 64
        bound k a low is = let most : k * (9 * rounds) ≤ 16 * (9 * 400) = search arith in omega (arith, is, most, made share back, few)

-- ---- all workers

-- as many calls as nine for each round of each worker
pub nine_each : (n rounds : ℕ) → n * (9 * rounds) ≡ 9 * (n * rounds)
nine_each n rounds = search arith

numbers_are : {Gate : Type 0} (parties : List (PartyView Gate)) → map number_of parties ≡ map (λ (worker : WorkerView). worker.number) (map (λ (party : PartyView Gate). party.worker) parties)
numbers_are [] = refl
numbers_are (party ∷ parties) = ap (λ l. party.worker.number ∷ l) (numbers_are parties)

module _ {Gate : Type 0} (workers : List WorkerView) (parties : List (PartyView Gate)) (rounds : ℕ) (same : map (λ party. party.worker) parties ≡ workers) where
  numbers_same : map number_of parties ≡ map (λ (worker : WorkerView). worker.number) workers
  numbers_same = numbers_are parties ∙ ap (λ ws. map (λ (worker : WorkerView). worker.number) ws) same

  pub has_all : (r : Result ShareView StormFault) → Gathers r (length parties) 0 (9 * rounds) (sum_by spare_of parties) 0 → GathersSeen r (9 * rounds) [] (map number_of parties) → IfOk r (HasAll workers rounds)
  has_all (Err fault) g seen = tt
  has_all (Ok share) g seen =
      let len : length parties ≡ length workers = sym (length-map parties (λ party. party.worker)) ∙ ap length same in
      let all : share.call_parts ≡ length workers = omega (arith, g.1, len) in
      let sum : sum_by spare_of parties ≡ sum_by (λ (worker : WorkerView). worker.spare) workers = sum_of_map (λ (party : PartyView Gate). party.worker) (λ (worker : WorkerView). worker.spare) parties ∙ ap (λ ws. sum_by (λ (worker : WorkerView). worker.spare) ws) same in
      record {
        units = g.0;
        accepted = g.2 ∙ ap (λ k. k * (9 * rounds)) all ∙ nine_each (length workers) rounds;
        handle_parts = omega (arith, g.3, sum);
        call_parts = all;
        numbers = sym (append-nil (numbers_seen share.seen)) ∙ seen.1 ∙ numbers_same;
        own_are = seen.0;
      }

-- ---- why one of all stopped

module _ {Gate : Type 0} (count : ℕ) (workers : List WorkerView) (parties : List (PartyView Gate)) (same : map (λ party. party.worker) parties ≡ workers) (is : count ≡ length workers) where
  as_many : length parties ≡ count
  as_many = sym (length-map parties (λ party. party.worker)) ∙ ap length same ∙ sym is

  pub numbers_of : All (λ worker. worker.number < count) workers → All (λ party. party.worker.number < length parties) parties
  numbers_of all =
      subst (λ k. All (λ (party : PartyView Gate). party.worker.number < k) parties) (sym as_many)
      (all_of_map (λ (party : PartyView Gate). party.worker) parties workers same (λ worker. worker.number < count) all)

  pub stopped_of : (limits : Limits) (rules : List Filter) (holds : ℕ → ℕ → Type 0) (rounds : ℕ) (r : Result ShareView StormFault) → IfErr r (IsWorkersStop limits rules holds (IsOneOf (length parties) rounds))
      → IfErr r (IsWorkersStop limits rules holds (IsOneOf count rounds))
  stopped_of limits rules holds rounds r stop = subst (λ k. IfErr r (IsWorkersStop limits rules holds (IsOneOf k rounds))) as_many stop

-- the workers and the drain, whose number is that of all workers
module _ (whole : Result ShareView StormFault) (drain : Result DrainView StormFault) (r : Result (ShareView × DrainView) StormFault) (is : r ≡ share_and_drain whole drain) where
  pub both_are_back : (workers : List WorkerView) (rounds : ℕ) (went : DrainView) → IfOk whole (HasAll workers rounds) → IfOk drain (IsSameDrain went) → IfOk r (λ back. AreBothBack workers rounds went back.0 back.1)
  both_are_back workers rounds went a b = subst (λ x. IfOk x (λ back. AreBothBack workers rounds went back.0 back.1)) (sym is) (each whole drain a b) where
    each : (whole : Result ShareView StormFault) (drain : Result DrainView StormFault) → IfOk whole (HasAll workers rounds) → IfOk drain (IsSameDrain went) → IfOk (share_and_drain whole drain) (λ back. AreBothBack workers rounds went back.0 back.1)
    each (Err fault) drain a b = tt
    each (Ok whole) (Err fault) a b = tt
    each (Ok whole) (Ok drain) a b = record { whole = a; drain = b }

  pub stopped_of_both : (limits : Limits) (rules : List Filter) (holds : ℕ → ℕ → Type 0) (count party rounds : ℕ) → IfErr whole (IsWorkersStop limits rules holds (IsOneOf count rounds)) → IfErr drain (IsDrainsStop holds party) → party ≡ count
      → IfErr r (IsStormStop limits rules holds count rounds)
  stopped_of_both limits rules holds count party rounds a b last = subst (λ x. IfErr x (IsStormStop limits rules holds count rounds)) (sym is) (each whole drain a b) where
    each : (whole : Result ShareView StormFault) (drain : Result DrainView StormFault) → IfErr whole (IsWorkersStop limits rules holds (IsOneOf count rounds)) → IfErr drain (IsDrainsStop holds party)
        → IfErr (share_and_drain whole drain) (IsStormStop limits rules holds count rounds)
    each (Err stopped) drain a b =
        stop_wider (WasRefused limits rules (IsOneOf count rounds)) (WasRefused limits rules (IsOneOf count rounds)) (WasHeld holds (IsOneOf count rounds)) (WasHeld holds (IsParty count rounds))
        (λ fault was. was) (held_wider limits rules holds (IsOneOf count rounds) (IsParty count rounds) (λ other calls one. is_worker one)) stopped a
    each (Ok whole) (Err stopped) a b =
        stop_wider (λ _. ⊥) (WasRefused limits rules (IsOneOf count rounds)) (WasHeld holds (λ other calls. (other ≡ party) × (calls ≡ 0))) (WasHeld holds (IsParty count rounds))
        (λ fault none. absurd none) (held_wider limits rules holds (λ other calls. (other ≡ party) × (calls ≡ 0)) (IsParty count rounds) (λ other calls same. is_drain (same.0 ∙ last) same.1)) stopped b
    each (Ok whole) (Ok drain) a b = tt

-- what comes back of the drain, whose thread was started so
module _ {Gate : Type 0} (holds : Gate → ℕ → ℕ → Type 0) (draining : DrainingView Gate) (drain : DrainView) (gate : Gate) (party : ℕ) (r : Result DrainView StormFault)
    (is : draining ≡ record { drain = drain; gate = gate; party = party }) where
  pub drain_back : IfOk r (IsSameDrain draining.drain) → IfOk r (IsSameDrain drain)
  drain_back back = subst (λ (d : DrainingView Gate). IfOk r (IsSameDrain d.drain)) is back

  pub drain_stopped : IfErr r (IsDrainsStop (holds draining.gate) draining.party) → IfErr r (IsDrainsStop (holds gate) party)
  drain_stopped stop = subst (λ (d : DrainingView Gate). IfErr r (IsDrainsStop (holds d.gate) d.party)) is stop

-- ---- the end

-- each of so many workers, whose calls are all in the history, has those of its own there that it saw
pub each_made : (seen : List FrontView) (workers : List WorkerView) (sent : List PlainBatch) (count calls : ℕ) → length seen ≡ count → numbers_seen seen ≡ map (λ worker. worker.number) workers
    → ((i : ℕ) (d : WorkerView) → i < count → IsNew i (get_or workers i d)) → All (HasOwn calls) seen → All (λ front. IsFront front sent) seen
    → (worker : ℕ) → worker < count → (length (own worker sent) ≡ calls) × AreOfRounds worker (own worker sent)
each_made seen workers sent count calls long numbers new own_are fronts worker low =
    let some : FrontView = record { number = 0; seen = [] } in
    let none : WorkerView = record { number = 0; accepted = 0; spare = 0; seen = [] } in
    let front = get_or seen worker some in
    let here : worker < length seen = omega (arith, long, low) in
    let there : worker < length workers = omega (arith, here, ap length numbers, length-map seen (λ (front : FrontView). front.number), length-map workers (λ (worker : WorkerView). worker.number)) in
    let number : front.number ≡ worker =
    sym (get_or-map (λ (front : FrontView). front.number) seen worker some 0 here)
    ∙ ap (λ l. get_or l worker 0) numbers
    ∙ get_or-map (λ (worker : WorkerView). worker.number) workers worker none 0 there
    ∙ (new worker none low).number_is in
    subst (λ n. (length (own n sent) ≡ calls) × AreOfRounds n (own n sent)) number
    (subst (λ l. (length l ≡ calls) × AreOfRounds front.number l) (fronts worker some here).own_are (own_are worker some here))
