-- Lists of fields with several owners, as contracts see them.
use Rattle.std.specs.Prelude.{List, [], Option, Some, None, nat_eq}
use Rattle.std.specs.Cmp.{IsEquivalence, and_equiv, on_equiv}
use Rattle.std.specs.Cmp.Lexicographic.{pointwise, bytes_decides, lists_equiv, nat_list_eq_equiv}
use Rattle.std.specs.Hash.{Alike, same_Alike, on_Alike, and-Alike, items_Alike}
use Rattle.std.specs.Hash as fed
use Rattle.smallvec.specs.SmallVec.{SmallVec}
use Rattle.span_id.specs.declared.meta.Field.{Field}
use Rattle.span_id.specs.Meta.{KeyValue, plain_fields, is_same_pair, pair_input}

-- the fields of a list, wherever they lie
abbrev pub listed_fields : SmallVec Field → List Field
listed_fields list = list.items

-- the fields of a list that may be missing, where there are none
abbrev pub fields_of : {L : Type 0} → (L → List Field) → Option L → List KeyValue
fields_of items None = []
fields_of items (Some list) = plain_fields (items list)

-- comparing keys and values is an equivalence
pub equivalence : IsEquivalence (pointwise is_same_pair)
equivalence =
    lists_equiv (and_equiv (on_equiv (λ (pair : KeyValue). pair.0) nat_list_eq_equiv) (on_equiv (λ (pair : KeyValue). pair.1) nat_list_eq_equiv))

text_alike : Alike (pointwise nat_eq) fed.str
text_alike = same_Alike fed.str bytes_decides

-- what compares as equal is fed to a hasher alike
pub alike : Alike (pointwise is_same_pair) (fed.slice pair_input)
alike = items_Alike (and-Alike (on_Alike (λ (pair : KeyValue). pair.0) text_alike) (on_Alike (λ (pair : KeyValue). pair.1) text_alike))
