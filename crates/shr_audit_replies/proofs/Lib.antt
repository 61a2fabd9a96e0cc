-- SPDX-License-Identifier: GPL-2.0-only
mod Common
mod Mapped
pub mod Deciding
mod Replying
mod Answering
mod Risings
pub mod Whole
mod RepliesValues
mod LendingCommon
mod Lending
mod LentReplying
mod Places
mod LentValues
mod OnceCommon
mod OnceOrder
mod OnceLaws
mod OnceValues
