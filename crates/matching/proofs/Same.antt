-- What the tables say is wrong with a message is what the messages say.
use Rattle.std.proofs.Common.{ℕ, suc, arith, ◌≡◌, ◌+◌, ◌==◌, List, [], ◌∷◌, Bool, true, false, cond, map, refl, ap, sym}
use Rattle.std.proofs.Common.{◌∙◌, Some, None}
use Rattle.std.specs.Prelude.{if◌then◌else◌, is_some}
use Rattle.std.specs.declared.option.Option.{Option}
use Rattle.std.specs.Option.{option_map, option_or}
use Rattle.msg_frames.specs.declared.message.Head.{Head}
use Rattle.msg_frames.specs.declared.message.Piece.{Piece}
use Rattle.msg_frames.specs.declared.message.Body.{Body}
use Rattle.msg_frames.specs.declared.message.Body.TheVariants as body
use Rattle.msg_frames.specs.declared.message.Message.{Message}
use Rattle.elf_image.specs.Images.{Loaded}
use Rattle.tandem_base.specs.FirstFault.{◌or_else◌}
use Rattle.verdict_report.specs.declared.fault.Fault.{Fault}
use Rattle.verdict_report.specs.declared.fault.Fault.TheVariants as fault
use Rattle.matching.specs.declared.stores.Fate.{Fate}
use Rattle.matching.specs.declared.stores.Held.{Held}
use Rattle.matching.specs.declared.stores.Stored.{Stored}
use Rattle.matching.specs.declared.stores.Tracked.{Tracked}
use Rattle.matching.specs.Searches.{earliest}
use Rattle.matching.specs.Settings.{config_of}
use Rattle.matching.specs.Tags.{is_early}
use Rattle.matching.specs.Reports.{early}
use Rattle.matching.specs.Stores.{retired_stores, store_under}
use Rattle.matching.specs.PartFaults.{is_known, fate_at, part_fault_in, data_fault_of, torn_store_fault_of}
use Rattle.matching.specs.PartFaults.{merge_fault_of}
use Rattle.matching.specs.PartFaults.{insert_range_fault, bypass_range_fault, second_bypass_fault}
use Rattle.matching.specs.EndFaults.{first_left, is_open_store, earliest_left, unwritten_fault_in, unwritten_fault_at}
use Rattle.matching.specs.EndFaults.{unwritten_fault_of, unwritten_below}
use Rattle.matching.specs.Matching.{body_fault_of}
use Rattle.matching.specs.Runs.{bypass_at}
use Rattle.matching.specs.Tables.{tracked, tracked_at, fate_in_store, tracked_under, tracked_fault, table_at}
use Rattle.matching.specs.Tables.{table_fault, is_left_open, left_fault_in, left_fault}
use Rattle.matching.proofs.Waits.{inserts_of_line}

known_same : (f : ℕ → Fate) (piece : Piece) (s : Stored)
    → is_known (fate_in_store (tracked f s)) piece s ≡ is_known f piece s
unfolding is_known
known_same f piece s = refl

left_same : (f : ℕ → Fate) (s : Stored) → first_left (fate_in_store (tracked f s)) s ≡ first_left f s
unfolding first_left
left_same f s = refl

under_one : (a : Bool) (t : ℕ) (g : Stored → Tracked) (s : Stored) (o : Option Tracked) (u : Option Stored)
    → o ≡ option_map g u
    → cond a (Some (g s)) o ≡ option_map g (cond a (Some s) u)
under_one true t g s o u e = refl
under_one false t g s o u e = e

-- the store under a tag
pub under_same : (before : List Message) (h t : ℕ) (ss : List Stored)
    → tracked_under t (map (tracked_at before h) ss) ≡ option_map (tracked_at before h) (store_under t ss)
under_same before h t [] = refl
under_same before h t (s ∷ ss) =
    under_one (s.tag == t) t (tracked_at before h) s (tracked_under t (map (tracked_at before h) ss)) (store_under t ss)
    (under_same before h t ss)

part_of : (before : List Message) (h : ℕ) (piece : Piece) (o : Option Stored)
    → tracked_fault piece (option_map (tracked_at before h) o) ≡ part_fault_in (fate_at before h) piece o
part_of before h piece None = refl
part_of before h piece (Some s) =
    ap (λ (b : Bool). (if b then None else Some fault.UnknownStore) or_else data_fault_of piece s or_else
    torn_store_fault_of piece s)
    (known_same (fate_at before h s) piece s)

-- a part of a store
part_same : (before : List Message) (h t : ℕ) (piece : Piece) (ss : List Stored)
    → tracked_fault piece (tracked_under t (map (tracked_at before h) ss))
    ≡ part_fault_in (fate_at before h) piece (store_under t ss)
part_same before h t piece ss =
    ap (tracked_fault piece) (under_same before h t ss) ∙ part_of before h piece (store_under t ss)

bypass_by : (y : Bool) (second part part' : Option Fault) → part ≡ part' → cond y second part ≡ cond y second part'
bypass_by true second part part' e = refl
bypass_by false second part part' e = e

-- a message of a known hart, but the End
pub fault_same : (image : Loaded) (before : List Message) (head : Head) (b : Body) → (b ≡ body.End → ⊥)
    → table_fault image (config_of before) (early before) (table_at image before head.hart) head b
    ≡ body_fault_of image before head b
fault_same image before head (body.Open info) e = refl
fault_same image before head (body.Poke poke) e = refl
fault_same image before head (body.Read piece) e = refl
fault_same image before head (body.Insert piece) e =
    ap (λ (f : Option Fault). insert_range_fault image piece or_else f)
    (part_same before head.hart head.tag piece (retired_stores image before head.hart))
fault_same image before head (body.Write write) e =
    ap (λ (held : List Held). merge_fault_of held write) (inserts_of_line before head.hart write.line)
fault_same image before head (body.Bypass piece) e =
    ap (λ (f : Option Fault). bypass_range_fault image piece or_else f)
    (bypass_by (is_early before head) (second_bypass_fault head.tag (bypass_at before head)) _ _
    (part_same before head.hart head.tag piece (retired_stores image before head.hart)))
fault_same image before head (body.Retire retire) e = refl
fault_same image before head body.Squash e = refl
fault_same image before head body.End e = absurd (e refl)

earliest_one : (a : Bool) (g : Stored → Tracked) (s : Stored) (o : Option Tracked) (u : Option Stored)
    → o ≡ option_map g u
    → option_or o (cond a (Some (g s)) None) ≡ option_map g (option_or u (cond a (Some s) None))
earliest_one true g s o None e = ap (λ (p : Option Tracked). option_or p (Some (g s))) e
earliest_one false g s o None e = ap (λ (p : Option Tracked). option_or p None) e
earliest_one a g s o (Some u) e = ap (λ (p : Option Tracked). option_or p (cond a (Some (g s)) None)) e

earliest_same : (before : List Message) (h : ℕ) (ss : List Stored)
    → earliest is_left_open (map (tracked_at before h) ss)
    ≡ option_map (tracked_at before h) (earliest_left (fate_at before h) ss)
earliest_same before h [] = refl
earliest_same before h (s ∷ ss) =
    ap (λ (k : Option ℕ). option_or (earliest is_left_open (map (tracked_at before h) ss))
    (if is_some k then Some (tracked_at before h s) else None)) (left_same (fate_at before h s) s)
    ∙ earliest_one (is_open_store (fate_at before h) s) (tracked_at before h) s _ (earliest_left (fate_at before h) ss)
    (earliest_same before h ss)

left_of : (before : List Message) (h : ℕ) (o : Option Stored)
    → left_fault_in h (option_map (tracked_at before h) o) ≡ unwritten_fault_in (fate_at before h) h o
left_of before h None = refl
left_of before h (Some s) = ap (unwritten_fault_at h s) (left_same (fate_at before h s) s)

-- a hart's earliest store that isn't performed
pub left_fault_same : (image : Loaded) (before : List Message) (h : ℕ)
    → left_fault h (table_at image before h) ≡ unwritten_fault_of image before h
left_fault_same image before h =
    ap (left_fault_in h) (earliest_same before h (retired_stores image before h)) ∙ left_of before h _

-- the stores of one hart more
pub below_more : (image : Loaded) (before : List Message) (n : ℕ)
    → unwritten_below image before (n + 1) ≡ unwritten_below image before n or_else unwritten_fault_of image before n
unfolding unwritten_below
below_more image before n = let e : suc n ≡ n + 1 = omega arith in sym (ap (unwritten_below image before) e)

pub below_none : (image : Loaded) (before : List Message) → unwritten_below image before 0 ≡ None
unfolding unwritten_below
below_none image before = refl
