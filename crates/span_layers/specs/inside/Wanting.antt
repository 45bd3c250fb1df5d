-- Which layers want notes of each kind, as masks, for the functions inside this crate: no public clause cites it.
use Rattle.std.specs.Prelude.{◌≡◌, ℕ, Bool, ◌&&◌, ◌||◌, List}
use Rattle.span_id.specs.Bits.{has_bit}
use Rattle.span_layers.specs.declared.note.Kind.{Kind}
use Rattle.span_layers.specs.declared.note.Kind.TheVariants.{OnNew, OnRecord, OnEvent, OnEnter, OnExit, OnClose}
use Rattle.span_layers.specs.declared.wanting.Wanting.{Wanting}
use Rattle.span_layers.specs.Filter.{Filter, layer_wants}

-- the mask of a kind
abbrev pub mask_of : Wanting → Kind → ℕ
mask_of wanting OnNew = wanting.on_new
mask_of wanting OnRecord = wanting.all
mask_of wanting OnEvent = wanting.all
mask_of wanting OnEnter = wanting.on_enter
mask_of wanting OnExit = wanting.on_exit
mask_of wanting OnClose = wanting.on_close

-- a bit, once it is set where a layer that has it is wanted
abbrev pub with_bit : Bool → Bool → Bool → Bool
with_bit before here wanted = before || (here && wanted)

-- the bits of each mask are the layers that want its kind
abbrev pub AreWanted : Wanting → List Filter → Type 0
AreWanted wanting filters =
    (kind : Kind) (layer : ℕ) → has_bit (mask_of wanting kind) layer ≡ layer_wants filters layer kind
