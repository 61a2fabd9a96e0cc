-- SPDX-License-Identifier: GPL-2.0-only
-- What the answers of calls are as replies.
use Rattle.std.specs.Prelude.{List, [], length, None}
use Rattle.shr_base.specs.declared.objects.Object.{Object}
use Rattle.shr_base.specs.declared.places.Place.{Place}
use Rattle.shr_base.specs.declared.replies.Answered.{Answered}
use Rattle.shr_base.specs.declared.replies.Reply.{Reply}
use Rattle.shr_base.specs.declared.replies.Reply.TheVariants as reply
use Rattle.shr_base.specs.declared.walks.WalkAnswer.{WalkAnswer}
use Rattle.shr_base.specs.declared.walks.WalkAnswer.TheVariants as walk
use Rattle.shr_charge.specs.declared.answers.MakeAnswer.{MakeAnswer}
use Rattle.shr_charge.specs.declared.answers.MakeAnswer.TheVariants as make
use Rattle.shr_offline.specs.declared.answers.OfflineAnswer.{OfflineAnswer}
use Rattle.shr_offline.specs.declared.answers.OfflineAnswer.TheVariants as offline
use Rattle.shr_plain.specs.declared.answers.GrabAnswer.{GrabAnswer}
use Rattle.shr_plain.specs.declared.answers.GrabAnswer.TheVariants as grab
use Rattle.shr_plain.specs.declared.answers.ReleaseAnswer.{ReleaseAnswer}
use Rattle.shr_plain.specs.declared.answers.ReleaseAnswer.TheVariants as release
use Rattle.shr_registry.specs.declared.answers.RegisterAnswer.{RegisterAnswer}
use Rattle.shr_registry.specs.declared.answers.RegisterAnswer.TheVariants as register
use Rattle.shr_registry.specs.declared.answers.UnregisterAnswer.{UnregisterAnswer}
use Rattle.shr_registry.specs.declared.answers.UnregisterAnswer.TheVariants as unregister

-- the answer to a command that held no cache
abbrev pub unfound : Reply → Answered
unfound r = record { reply = r; found = None }

-- the reply to a shrink or a balance
abbrev pub walk_reply : WalkAnswer → Reply
walk_reply (walk.Walked freed) = reply.Walked freed
walk_reply (walk.Offline entry) = reply.Offline entry
walk_reply (walk.Memory freed) = reply.WalkMemory freed

-- the reply to an `offline`
abbrev pub offline_reply : OfflineAnswer → Reply
offline_reply (offline.Done entry moved deferred) = reply.OfflineDone entry moved deferred
offline_reply (offline.AlreadyDone entry) = reply.AlreadyDone entry
offline_reply offline.Root = reply.Root
offline_reply (offline.NotMade group) = reply.NotMade group
offline_reply (offline.HasChildren child entry) = reply.HasChildren child entry
offline_reply (offline.Worn spent) = reply.Worn spent
offline_reply offline.Memory = reply.Memory

-- the reply to a `mkgroup`
abbrev pub make_reply : MakeAnswer → Reply
make_reply (make.AlreadyMade entry) = reply.AlreadyMade entry
make_reply (make.NotMade group) = reply.NotMade group
make_reply (make.Offline entry) = reply.Offline entry
make_reply make.Memory = reply.Memory
make_reply (make.Made entry) = reply.Made entry

-- the reply to a `register`
abbrev pub register_reply : RegisterAnswer → Reply
register_reply (register.AlreadyRegistered entry) = reply.AlreadyRegistered entry
register_reply (register.NoId entry) = reply.NoId entry
register_reply register.Memory = reply.Memory
register_reply (register.Registered id entry) = reply.Registered id entry

-- the objects that were drained are told by their number
abbrev pub unregister_reply : UnregisterAnswer → Reply
unregister_reply (unregister.Freed id entry from to objects) =
    reply.Freed id entry from to (length objects.items)
unregister_reply (unregister.NoCache entry) = reply.NoCache entry
unregister_reply unregister.Memory = reply.Memory
unregister_reply (unregister.Half id entry from to objects why) =
    reply.Half id entry from to (length objects.items) why

-- the objects that were drained
abbrev pub objects_drained : UnregisterAnswer → List Object
objects_drained (unregister.Freed id entry from to objects) = objects.items
objects_drained (unregister.NoCache entry) = []
objects_drained unregister.Memory = []
objects_drained (unregister.Half id entry from to objects why) = objects.items

-- the reply to a `release` of units at a place, which names the place's pool and node
abbrev pub release_reply : Place → ReleaseAnswer → Reply
release_reply place (release.Full entries free) = reply.Full place.id place.node entries free
release_reply place (release.Worn spent) = reply.Worn spent
release_reply place release.Memory = reply.Memory
release_reply place (release.Released entry) = reply.Released place.id place.node entry

-- the reply to a `grab`
abbrev pub grab_reply : Place → GrabAnswer → Reply
grab_reply place (grab.Worn spent) = reply.Worn spent
grab_reply place grab.Memory = reply.Memory
grab_reply place (grab.Grabbed entry) = reply.Grabbed place.id place.node entry
grab_reply place (grab.Bare entry) = reply.Bare place.id place.node entry
