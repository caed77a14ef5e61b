-- By which status `sng status` ends.
use Rattle.std.proofs.Common.{◌≡◌, Bool, true, false, if◌then◌else◌, refl, sym, ◌∙◌}
use Rattle.sng_metrics.specs.declared.health.Health.{Health}
use Rattle.sng_script.specs.Statuses.{ended}
use Rattle.sng_script.specs.declared.status.Status.{Status}
use Rattle.sng_script.specs.declared.status.Status.TheVariants.{Done, Unreadable}
use Rattle.sng_status.specs.Askings.{EndsBy, is_well_by}

done_where : (well printed : Bool) → ended (if well then Done else Unreadable) printed ≡ Done → well ≡ true
done_where true printed is = refl
done_where false true is = cc
done_where false false is = cc

-- it has done what it was to do only where all is well
pub well_where_done : (health : Health) (status : Status) → EndsBy health status → status ≡ Done
    → is_well_by health ≡ true
well_where_done health status ends is =
    done_where (is_well_by health) ends.printed (sym ends.is_status ∙ is)
