-- How many threads a stress run may have (this project's own).
use Rattle.std.specs.Prelude.{Bool, ◌+◌, ◌&&◌}
use Rattle.ref_base.specs.Limits.{is_between}
use Rattle.refrun.specs.declared.stress_options.StressOptions.{StressOptions}

-- mutators and pollers together are 1 to 8, and so are workers
abbrev pub has_threads_in_range : StressOptions → Bool
has_threads_in_range o = is_between 1 8 (o.mutators + o.pollers) && is_between 1 8 o.workers
