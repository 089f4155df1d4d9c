use Rattle.stack.proofs.Views as views
use Rattle.stack.proofs.laws.views_hold.Goals as goal

pub returns : goal.returns
returns g c = record {
  reversed = views.newest_is_reversed_oldest;
  lengths = views.as_long_as_held;
  within = views.acts_stay_within;
  put = views.put_adds_newest;
  order = views.last_put_first_off;
  taken = views.taking_off_takes_newest;
  cut = views.cut_leaves_oldest;
  replaced = views.replace_writes_one;
  top = views.top_is_newest;
  read = views.read_from_either_end;
  lower = views.lower_are_kept;
}
