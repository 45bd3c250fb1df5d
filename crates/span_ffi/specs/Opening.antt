-- What the data of a new registry say, and what is made of them.
use Rattle.std.specs.Prelude.{◌≡◌, ℕ, ◌+◌, ◌*◌, ◌<◌, ◌≤◌, ◌==◌, ◌||◌, Bool, true, false, if◌then◌else◌, List, [], ◌∷◌, length, take, drop, map, Option, Some, None, is_some, IsSomeAnd}
use Rattle.span_id.specs.declared.fault.Fault.TheVariants.{TooManyLayers, BadLimits, Memory}
use Rattle.span_id.specs.declared.limits.Limits.{Limits}
use Rattle.span_id.specs.Limits.{AreInRange}
use Rattle.span_layers.specs.declared.form.Form.{Form}
use Rattle.span_layers.specs.declared.form.Form.TheVariants.{Compact, Json}
use Rattle.span_layers.specs.declared.style.TheConstants.FmtSpan.{FULL}
use Rattle.span_layers.specs.FmtSpan.{bits_of}
use Rattle.span_layers.specs.Rule.{Pair}
use Rattle.span_layers.specs.Filter.{Filter}
use Rattle.span_core.specs.World.{empty_world}
use Rattle.span_ffi.specs.declared.data.SpanLimits.{SpanLimits}
use Rattle.span_ffi.specs.declared.data.SpanLayer.{SpanLayer}
use Rattle.span_ffi.specs.declared.data.SpanRule.{SpanRule}
use Rattle.span_border.specs.declared.status.Status.{Status}
use Rattle.span_border.specs.declared.status.Status.TheVariants.{Done, Refused, BadData, HandleInUse}
use Rattle.span_ffi.specs.Data.{BeginsWithText, said_level}
use Rattle.span_ffi.specs.Said.{SaidRegistry}
use Rattle.span_ffi.specs.Headings.{HeadingsView}
use Rattle.span_ffi.specs.HeadingReader.{HeadingReaderView}
use Rattle.span_ffi.specs.Registry.{RegistryView}
use Rattle.span_ffi.specs.Drain.{ReaderView}

-- the limits that the numbers say
abbrev pub said_limits : SpanLimits → Limits
said_limits limits = record {
  slots = limits.slots;
  last_generation = limits.last_generation;
  max_count = limits.max_count;
  workers = limits.workers;
  ring = limits.ring;
}

-- the level of each rule is there, and the bytes begin with the prefixes, one after another; bytes may be left
abbrev pub AreRules : List SpanRule → List ℕ → Type 0
AreRules [] bytes = Unit {0}
AreRules (rule ∷ rules) bytes =
    (rule.level ≤ 4) × BeginsWithText rule.prefix_len bytes × AreRules rules (drop rule.prefix_len bytes)

-- the pair that each rule says: its prefix, which stands in the bytes behind those before it, and its number's level
abbrev pub said_pairs : List SpanRule → List ℕ → List Pair
said_pairs [] bytes = []
said_pairs (rule ∷ rules) bytes =
    (take rule.prefix_len bytes, said_level rule.level) ∷ said_pairs rules (drop rule.prefix_len bytes)

-- the bytes behind the prefixes
abbrev pub behind_rules : List SpanRule → List ℕ → List ℕ
behind_rules [] bytes = bytes
behind_rules (rule ∷ rules) bytes = behind_rules rules (drop rule.prefix_len bytes)

-- the form and the kinds are there, and the layer has its rules
pub record IsLayer (layer : SpanLayer) (rules : List SpanRule) (bytes : List ℕ) : Type 0 where
  pub form : layer.form ≤ 1
  pub kinds : layer.kinds ≤ bits_of FULL
  pub enough : layer.rules ≤ length rules
  pub rules_are : AreRules (take layer.rules rules) bytes

-- each layer takes the next of the rules for its own, and their prefixes; no rule and no byte is left
abbrev pub AreLayers : List SpanLayer → List SpanRule → List ℕ → Type 0
AreLayers [] rules bytes = (rules ≡ []) × (bytes ≡ [])
AreLayers (layer ∷ layers) rules bytes =
    IsLayer layer rules bytes × AreLayers layers (drop layer.rules rules) (behind_rules (take layer.rules rules) bytes)

-- the filter of each layer: the pairs of its own rules, and the kinds of notes that it wants
abbrev pub said_filters : List SpanLayer → List SpanRule → List ℕ → List Filter
said_filters [] rules bytes = []
said_filters (layer ∷ layers) rules bytes =
    (record { pairs = said_pairs (take layer.rules rules) bytes; spans = layer.kinds })
    ∷ said_filters layers (drop layer.rules rules) (behind_rules (take layer.rules rules) bytes)

-- 0 compact, 1 JSON
abbrev pub said_form : ℕ → Form
said_form number = if number == 0 then Compact else Json

-- the form of each layer, in order
abbrev pub said_forms : List SpanLayer → List Form
said_forms layers = map (λ layer. said_form layer.form) layers

-- both ends of a new ring of headings, where any are kept: two places for each of the other ring, and one more
abbrev pub AreNewHeadings : Bool → ℕ → Option HeadingsView → Option HeadingReaderView → Type 0
AreNewHeadings false ring headings reader = (headings ≡ None) × (reader ≡ None)
AreNewHeadings true ring headings reader = IsSomeAnd headings (λ new. IsSomeAnd reader (λ other.
    (other.name.places ≡ 2 * ring + 1) × (other ≡ record { name = other.name; looks = 0; received = []; standing = [] })
    × (new ≡ record { name = other.name; sent = []; free = 2 * ring + 1; stamp = 0; kinds = []; lost = 0 })))

-- A new registry and the other end of its ring: the limits are in their ranges, the layers are few enough, and the data
-- say them. The ring has as many places as the limits say. No span is open, there are no callsites, nothing was sent,
-- and nothing was taken or given out.
pub record AreNew
    (keeps : Bool) (limits : SpanLimits) (layers : List SpanLayer) (rules : List SpanRule) (bytes : List ℕ)
    (registry : RegistryView) (reader : ReaderView)
    : Type 0 where
  pub in_range : AreInRange (said_limits limits)
  pub few : length layers ≤ 64
  pub said : AreLayers layers rules bytes
  pub places : reader.lines.name.places ≡ limits.ring
  pub core_is : registry.core ≡ record {
    limits = said_limits limits;
    rules = said_filters layers rules bytes;
    world = empty_world limits.workers;
    sent = [];
    times_full = 0;
    forms = [];
    name = Some reader.lines.name;
  }
  pub callsites : registry.callsites ≡ []
  pub headings : AreNewHeadings keeps limits.ring registry.headings reader.headings
  pub reader_is : reader.lines ≡ record {
    name = reader.lines.name;
    looks = 0;
    forms = said_forms layers;
    taken = [];
    given = [];
    waiting = [];
    missed = 0;
  }

-- Why there is no new registry. Data that say nothing are told as such, also where memory is short.
abbrev pub WhyNone : SpanLimits → List SpanLayer → List SpanRule → List ℕ → Status → Type 0
WhyNone limits layers rules bytes (Refused BadLimits) = AreInRange (said_limits limits) → ⊥
WhyNone limits layers rules bytes (Refused TooManyLayers) = AreInRange (said_limits limits) × (64 < length layers)
WhyNone limits layers rules bytes BadData =
    AreInRange (said_limits limits) × (length layers ≤ 64) × (AreLayers layers rules bytes → ⊥)
WhyNone limits layers rules bytes (Refused Memory) =
    AreInRange (said_limits limits) × (length layers ≤ 64) × AreLayers layers rules bytes
WhyNone limits layers rules bytes _ = ⊥

-- Two empty handles get a new registry and the other end of its ring, which keep headings or not; else both stay as they
-- were, and the status says why: a handle isn't empty, or there is no new registry.
abbrev pub OpensKeeping : Bool → SaidRegistry → Option RegistryView → Option ReaderView
    → Option Status → Option RegistryView → Option ReaderView → Type 0
OpensKeeping keeps said registry reader None registry' reader' = ⊥
OpensKeeping keeps said registry reader (Some Done) registry' reader' =
    (registry ≡ None) × (reader ≡ None)
    × IsSomeAnd registry' (λ new. IsSomeAnd reader' (λ other.
    AreNew keeps said.limits said.layers said.rules said.texts new other))
OpensKeeping keeps said registry reader (Some HandleInUse) registry' reader' =
    ((is_some registry || is_some reader) ≡ true) × (registry' ≡ registry) × (reader' ≡ reader)
OpensKeeping keeps said registry reader (Some status) registry' reader' =
    (registry ≡ None) × (reader ≡ None) × WhyNone said.limits said.layers said.rules said.texts status
    × (registry' ≡ registry) × (reader' ≡ reader)

-- the same where no headings are kept
abbrev pub Opens : SaidRegistry → Option RegistryView → Option ReaderView
    → Option Status → Option RegistryView → Option ReaderView → Type 0
Opens = OpensKeeping false
