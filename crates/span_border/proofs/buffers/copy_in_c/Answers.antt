use Rattle.std.proofs.Common.{◌≡◌, ◌<◌, ◌+◌, ◌++◌, ℕ, List, [], ◌∷◌, length, map, take, set, get_or, sym, ap, ◌∙◌, arith}
use Rattle.std.proofs.lemmas.List.{take_more, take_more_set, drop-set-lt, length-set, map-append}
use Rattle.std.proofs.lemmas.Grind.{drop_more_same}
use Rattle.span_border.proofs.buffers.copy_in_c.Goals as goal

head_more : {S T : Type 0} (told : S → T) (things : List S) (into : List T) (i : ℕ) (one : S) (new : T) → i < length things → i < length into → one ≡ get_or things i one → new ≡ told one → take i into ≡ map told (take i things) → take (i + 1) (set into i new) ≡ map told (take (i + 1) things)
head_more told things into i one new low room is said head =
    take_more_set into i new room
    ∙ (ap (λ v. v ++ new ∷ []) head
    ∙ (ap (λ v. map told (take i things) ++ v ∷ []) (said ∙ ap told is)
    ∙ (sym (map-append told (take i things) (get_or things i one ∷ [])) ∙ ap (map told) (sym (take_more things i one low)))))

pub loop-place-preserved : goal.loop-place-preserved
loop-place-preserved g c =
    let things = c.args.things.now in
    let into = c.loop-place.into in
    let i = c.loop-place.place in
    let v = c.loop-place.invariant in
    let len = v.len in
    let one = c.index-things-place.result in
    let new = c.to_c.result in
    let room : i < length into = (let low = c.loop-place-test.true in let all = c.requires in omega (arith, low, all, len)) in
    record {
      head = head_more g.T.InC.in_c things into i one new c.loop-place-test.true room c.index-things-place.is c.to_c.ensures v.head;
      tail = drop-set-lt (i + 1) into i new (omega arith) ∙ drop_more_same into c.args.into.now i v.tail;
      len = length-set into i new ∙ len;
    }
