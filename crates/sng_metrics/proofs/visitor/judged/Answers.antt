use Rattle.std.proofs.Common.{◌≡◌, true, false, refl, ap, sym, ◌∙◌}
use Rattle.sng_metrics.specs.Requests.{hosts_of, whole_form}
use Rattle.sng_metrics.specs.declared.heard.Heard.TheVariants.{Refused}
use Rattle.sng_metrics.specs.declared.heard.Refusal.TheVariants.{Malformed}
use Rattle.sng_metrics.proofs.HeadLemmas.{hosts_are, judged_by}
use Rattle.sng_metrics.proofs.visitor.judged.Goals as goal

pub returns-then-host_fits : goal.returns-then-host_fits
returns-then-host_fits c h at =
    let hosts : c.host_lines-hosts.result ≡ hosts_of h.fields =
    c.host_lines-hosts.ensures ∙ hosts_are _ _ _ at.fields in
    judged_by h _ _ _ _ _ true
    (sym c.host_fits.ensures ∙ c.if-host_fits.true) at.version hosts
    (c.of-method.ensures ∙ at.method) (c.of.ensures ∙ at.path) c.asked.ensures

pub returns-else-host_fits : goal.returns-else-host_fits
returns-else-host_fits c h at =
    let hosts : c.host_lines-hosts.result ≡ hosts_of h.fields =
    c.host_lines-hosts.ensures ∙ hosts_are _ _ _ at.fields in
    judged_by h _ _ _ h.target _ false
    (sym c.host_fits.ensures ∙ c.if-host_fits.false) at.version hosts
    (c.of-method.ensures ∙ at.method) refl
    (ap (Refused Malformed) (c.whole_form.ensures ∙ ap whole_form c.form_of.ensures))
