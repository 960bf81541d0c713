-- What one more message leaves in bounds, and the messages before the first turn.
use Rattle.std.proofs.Common.{ℕ, zero, suc, ◌≡◌, ◌≤◌, List, [], ◌∷◌, length}
use Rattle.std.proofs.Common.{Bool, cond, refl, ap, arith, Some, None}
use Rattle.std.specs.List.{filter, flat_map}
use Rattle.std.specs.declared.option.Option.{Option}
use Rattle.std.proofs.lemmas.Bool.{le-ltb}
use Rattle.tandem_base.specs.FirstFault.{◌or_else◌}
use Rattle.msg_frames.specs.declared.message.Message.{Message}
use Rattle.verdict_report.specs.declared.verdict.Limit.{Limit}
use Rattle.verdict_report.specs.declared.verdict.Limit.TheVariants as limit
use Rattle.matching.specs.declared.reports.OpenReport.{OpenReport}
use Rattle.matching.specs.declared.stores.Stored.{Stored}
use Rattle.matching.specs.Counts.{reads_of, stores_of}
use Rattle.matching.specs.EndFaults.{is_open_store}
use Rattle.matching.specs.PartFaults.{fate_at}
use Rattle.matching.specs.Reports.{live, early}
use Rattle.matching.specs.Stores.{retired_stores}
use Rattle.order_laws.specs.Limits.{Bounds, Overrun, StaysInBounds, over_bound}
use Rattle.order_laws.proofs.Counting.{newest_in_bounds, none_over}
use Rattle.trace_model.specs.Entries.{Entry, entry_ops}
use Rattle.trace_model.specs.Kept.{is_kept, oldest_place, kept_of}
use Rattle.trace_model.specs.Traces.{entries, places}
use Rattle.trace_gen.specs.Program.{made_image, counter_addr, own_addr}
use Rattle.trace_gen.specs.Schedule.{said}
use Rattle.trace_gen.specs.Making.{opened, opens, pokes}
use Rattle.gen_laws.proofs.Own.{early_at}
use Rattle.gen_count_laws.specs.Laws.{made_bounds}

-- the same bounds, but for the number of messages
abbrev pub counts_bounds : Bounds
counts_bounds = record made_bounds { messages = None }

-- ---- one more message

-- few are open of a hart
pub record IsSmall (before : List Message) (h : ℕ) : Type 0 where
  pub reads : reads_of before h ≤ 4
  pub stores : stores_of made_image before h ≤ 1
  pub kept : kept_of made_image before h ≤ 56

within : (l : Limit) (bound h count : ℕ) → count ≤ bound → over_bound l (Some bound) h count ≡ None
within l bound h count le =
    ap (λ (b : Bool). cond b (Some (record { limit = l; hart = h; count = count })) None) (le-ltb bound count le)

none_of : (a b c d : Option Overrun) → a ≡ None → b ≡ None → c ≡ None → d ≡ None
    → a or_else b or_else c or_else d ≡ None
none_of a b c d p q r s = rw (p, q, r, s) refl

pub stay_more : (before : List Message) (m : Message) → StaysInBounds made_image counts_bounds before
    → IsSmall (m ∷ before) m.head.hart → StaysInBounds made_image counts_bounds (m ∷ before)
stay_more before m stays small =
    let h = m.head.hart in
    let all = m ∷ before in (
      stays,
      none_over made_image counts_bounds before m (newest_in_bounds made_image counts_bounds before stays)
          (none_of (over_bound limit.Reads (Some 4096) h (reads_of all h))
          (over_bound limit.Stores (Some 4096) h (stores_of made_image all h))
          (over_bound limit.Kept (Some 16384) h (kept_of made_image all h))
          (over_bound limit.Messages None 0 (length all))
          (within limit.Reads 4096 h (reads_of all h) (omega (arith, small.reads)))
          (within limit.Stores 4096 h (stores_of made_image all h) (omega (arith, small.stores)))
          (within limit.Kept 16384 h (kept_of made_image all h) (omega (arith, small.kept))) refl),
    )

-- ---- before the first turn

-- nothing is open
pub record IsBare (before : List Message) : Type 0 where
  pub reads : (h : ℕ) → live before h ≡ []
  pub earlies : early before ≡ []
  pub stores : (h : ℕ) → retired_stores made_image before h ≡ []
  pub none : entries made_image before ≡ []

bare_small : (before : List Message) (h : ℕ) → IsBare before → IsSmall before h
bare_small before h bare = record {
  reads =
      omega (
        arith,
        ap length (bare.reads h),
        ap (λ (es : List OpenReport). length (early_at h es)) bare.earlies,
      );
  stores =
      omega (
        arith,
        ap (λ (ss : List Stored). length (filter (λ (s : Stored). is_open_store (fate_at before h) s) ss))
            (bare.stores h),
      );
  kept =
      omega (
        arith,
        ap (λ (es : List Entry). length (filter (is_kept h (oldest_place before h))
            (flat_map (entry_ops (places before)) es))) bare.none,
      );
}

abbrev pub Opened : List Message → Type 0
Opened before = IsBare before × StaysInBounds made_image counts_bounds before

poke_more : (h number value : ℕ) (before : List Message) → Opened before
    → Opened (said h before (pokes number value))
poke_more h number value before is =
    let bare : IsBare (said h before (pokes number value)) =
    record { reads = is.0.reads; earlies = is.0.earlies; stores = is.0.stores; none = is.0.none } in (
      bare,
      stay_more before (record {
        head = record { hart = h; time = length before; tag = 0 };
        body =
            (pokes number value).body;
      })
          is.1 (bare_small (said h before (pokes number value)) h bare),
    )

pub stays_opened : (harts h : ℕ) → Opened (opened harts h)
stays_opened harts zero =
    let bare : IsBare (said 0 [] (opens harts)) =
    record { reads = λ h. refl; earlies = refl; stores = λ h. refl; none = refl } in (
      bare,
      stay_more [] (record { head = record { hart = 0; time = 0; tag = 0 }; body = (opens harts).body }) tt
          (bare_small (said 0 [] (opens harts)) 0 bare),
    )
stays_opened harts (suc h) =
    let one = said h (opened harts h) (pokes 10 counter_addr) in
    let two = said h one (pokes 11 (own_addr h)) in
    poke_more h 12 1 two (poke_more h 11 (own_addr h) one (poke_more h 10 counter_addr (opened harts h)
    (stays_opened harts h)))
