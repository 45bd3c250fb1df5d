-- The table of the bytes that may stand in a name.
use Rattle.std.proofs.Common.{◌≡◌, ℕ, ◌<◌, false, map, refl, ap, ◌∙◌, arith, slice_index_or}
use Rattle.std.proofs.lemmas.List.FromFn.{get_or-map-range_with_len}
use Rattle.std.specs.List.{range_with_len}
use Rattle.span_id.specs.Name.{is_name_byte}
use Rattle.span_id.specs.declared.name_bytes.TheConstants.{IN_NAMES}

whole : IN_NAMES ≡ map is_name_byte (range_with_len 0 256)
whole = refl

pub in_names : (byte : ℕ) → byte < 256 → slice_index_or IN_NAMES byte false ≡ is_name_byte byte
in_names byte low = ap (λ table. slice_index_or table byte false) whole ∙ get_or-map-range_with_len is_name_byte 0 256 byte byte false low (omega arith)
