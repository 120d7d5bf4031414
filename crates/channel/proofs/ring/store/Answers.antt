use Rattle.std.proofs.Common.{◌≡◌, ℕ, ◌+◌, ◌*◌, ◌≤◌, List, length, sym, ap, ◌∙◌, rules}
use Rattle.std.proofs.lemmas.List.{places}
use Rattle.framing.specs.declared.slot.Slot.TheVariants.{Frame}
use Rattle.channel.specs.Outgoings.{as_slot}
use Rattle.channel.proofs.Places.{place_fits, only_frame, frame_read}
use Rattle.channel.proofs.ring.store.Goals as goal

pub returns-in-Frame : goal.returns-in-Frame
returns-in-Frame c =
    let memory = c.args.memory.now in
    let place = c.args.place in
    let fits : place * 123 + 123 ≤ length memory = place_fits memory place c.requires in
    let size : length c.copy_from_slice.new.self ≡ 122 = c.copy_from_slice.ensures.len ∙ search (rules, places) in
    let copied : c.copy_from_slice.new.self ≡ c.in-Frame.frame.bytes = c.copy_from_slice.ensures.after in
    record {
      holds =
          frame_read memory place c.copy_from_slice.new.self c.requires size
          ∙ ap (λ (b : List ℕ). Frame (record { bytes = b })) copied
          ∙ sym (ap as_slot c.in-Frame.is);
      elsewhere = only_frame memory place c.copy_from_slice.new.self c.requires size;
    }
