-- At most one pair is reported.
use Rattle.std.proofs.Common.{◌<◌, ◌≡◌, ◌⊎◌, inl, inr, sym, subst, arith}
use Rattle.std.proofs.lemmas.Bool.{cases_order}
use Rattle.std.proofs.lemmas.List.Elements.{Contains-append_left}
use Rattle.rvwmo_model.specs.declared.operations.Op.{Op}
use Rattle.rvwmo_model.specs.declared.traces.Trace.{Trace}
use Rattle.rvwmo_model.specs.Rules.{Rule}
use Rattle.rvwmo_model.specs.Report.{number, IsReportedPair}
use Rattle.rvwmo_model.specs.Laws.{ReportIsOne}
use Rattle.rvwmo_model.proofs.Orders.{name_total}
use Rattle.rvwmo_model.proofs.Totality.{one_name, stand_alike}

number_one : (j k : Rule) → number j ≡ number k → j ≡ k
number_one j k e = grind arith

-- the reported rule is the least
same_rule : (t : Trace) (j k : Rule) (a b c d : Op) → IsReportedPair t j a b → IsReportedPair t k c d → j ≡ k
same_rule t j k a b c d p q = at (cases_order (number j) (number k))
  where
    at : (number j ≡ number k) ⊎ ((number j < number k) ⊎ (number k < number j)) → j ≡ k
    at (inl e) = number_one j k e
    at (inr (inl l)) = absurd (q.rule j l a b p.first.here)
    at (inr (inr l)) = absurd (p.rule k l c d q.first.here)

pub report_one : ReportIsOne
report_one t f j k a b c d p q = (same, first, second)
  where
    same : j ≡ k
    same = same_rule t j k a b c d p q

    q' : IsReportedPair t j c d
    q' = subst (λ (r : Rule). IsReportedPair t r c d) (sym same) q

    second : b ≡ d
    second = one_name t b d f p.first.here.second_in q'.first.here.second_in
        (name_total b.name d.name (q'.second.least b p.second.offends) (p.second.least d q'.second.offends))

    q'' : IsReportedPair t j c b
    q'' = subst (λ (o : Op). IsReportedPair t j c o) (sym second) q'

    first : a ≡ c
    first = stand_alike t a c f (Contains-append_left t.ops t.early a p.first.here.first_in)
        (Contains-append_left t.ops t.early c q''.first.here.first_in) (p.first.latest c q''.first.here)
        (q''.first.latest a p.first.here)
